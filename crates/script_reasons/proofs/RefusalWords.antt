-- Each refusal that a word tells has that word.
use Rattle.std.proofs.Common.{◌≡◌, ◌∙◌, sym, refl, true, false, codes, Option, Some, None, IfSome, if◌then◌else◌}
use Rattle.filing_model.specs.Common.Text.{Text, text_eq}
use Rattle.filing_model.proofs.Common.Texts.{text_same}
use Rattle.script_reasons.specs.Refusals.{refusal_word, refusal_of_word}
use Rattle.script_reasons.specs.declared.refusal.Refusal.{Refusal}
use Rattle.script_reasons.specs.declared.refusal.Refusal.TheVariants as refused

-- a refusal, where it is one, has this word
abbrev Has : Text → Option Refusal → Type 0
Has word o = IfSome o (λ r. refusal_word r ≡ word)

-- where a word is compared with that of a refusal, and the others come else
chosen : (word known : Text) (r : Refusal) (rest : Option Refusal) → refusal_word r ≡ known → Has word rest
    → Has word (if text_eq word known then Some r else rest)
chosen word known r rest named later =
    elim (text_eq word known) as (λ b. text_eq word known ≡ b → Has word (if b then Some r else rest)) [
      | true ↦ λ e. named ∙ sym (text_same word known e)
      | false ↦ λ e. later
    ] refl

pub has_its_word : (word : Text) → IfSome (refusal_of_word word) (λ r. refusal_word r ≡ word)
has_its_word word =
    chosen word (codes "bad-line") refused.BadLine _ refl
    (chosen word (codes "bad-report") refused.BadReport _ refl
    (chosen word (codes "bad-fact") refused.BadFact _ refl
    (chosen word (codes "name-taken") refused.NameTaken _ refl
    (chosen word (codes "disallowed") refused.Disallowed _ refl
    (chosen word (codes "name-in-use") refused.NameInUse _ refl
    (chosen word (codes "no-session") refused.NoSession _ refl
    (chosen word (codes "no-report") refused.NoReport _ refl
    (chosen word (codes "read-only") refused.ReadOnly _ refl
    (chosen word (codes "taken") refused.Taken _ refl
    (chosen word (codes "conflict") refused.Conflict None refl tt))))))))))
