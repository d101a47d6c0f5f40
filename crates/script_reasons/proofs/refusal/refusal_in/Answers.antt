use Rattle.std.proofs.Common.{◌≡◌, ◌∙◌, sym, subst, codes, IfSome}
use Rattle.filing_model.specs.Common.Text.{Text}
use Rattle.filing_model.proofs.Common.Texts.{text_same}
use Rattle.script_reasons.specs.Refusals.{refusal_word}
use Rattle.script_reasons.proofs.RefusalWords.{has_its_word}
use Rattle.script_reasons.proofs.refusal.refusal_in.Goals as goal

-- a refusal that a word tells has that word, which is the reply's
pub returns-then-not-is_same_text-clause-word : goal.returns-then-not-is_same_text-clause-word
returns-then-not-is_same_text-clause-word c =
    subst (λ (word : Text). IfSome c.refusal_of_word.result (λ r. refusal_word r ≡ word)) c.word_of-word.ensures
    (subst (λ o. IfSome o (λ r. refusal_word r ≡ c.word_of-word.result.now)) (sym c.refusal_of_word.ensures)
    (has_its_word c.word_of-word.result.now))

-- the word was compared with that of a look-up
pub returns-then-branch-clause-word : goal.returns-then-branch-clause-word
returns-then-branch-clause-word c =
    sym (text_same c.word_of-word.result.now (codes "none") (sym c.is_same_text.ensures ∙ c.if-not-is_same_text.false))
    ∙ c.word_of-word.ensures
