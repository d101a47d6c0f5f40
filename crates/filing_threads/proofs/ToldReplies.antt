-- Replies that are put together one after another.
use Rattle.std.proofs.Common.{◌≡◌, ◌<◌, ◌+◌, ℕ, suc, add-one, length, drop, get_or, ◌∙◌, ap, sym, refl, subst}
use Rattle.std.proofs.Common.{true, false, List, [], ◌∷◌, ◌++◌, append_assoc, append-nil, Option, Some, None}
use Rattle.std.proofs.Common.{String, string_bytes, true≢false}
use Rattle.std.proofs.Math.Seq.{drop-cons}
use Rattle.std.specs.Option.{option_map_or}
use Rattle.std.specs.declared.alloc.Global.{Global}
use Rattle.filing_model.specs.Common.Text.{Text}
use Rattle.line_io.specs.Lines.{lines_text}
use Rattle.filing_office.specs.declared.outcome.Outcome.{Outcome}
use Rattle.filing_threads.specs.Telling.{replies_of, all_told, outcome_text, GrowsBy, NextReply}

-- the text so far, and what the lines and outcomes that are left are told, are what all are told, behind the text at the start
pub record IsToldTo {J : Type 0} (start : Text) (told rest : List (Option (String Global))) (os left : List (Outcome J)) (text : Text) : Type 0 where
  pub parts : text ++ lines_text (replies_of rest left) ≡ start ++ lines_text (replies_of told os)
  pub whole : all_told rest left ≡ all_told told os

pub none_told : {J : Type 0} (start : Text) (told : List (Option (String Global))) (os : List (Outcome J)) → IsToldTo start told told os os start
none_told start told os = record { parts = refl; whole = refl }

outcome_told : {J : Type 0} (rest : List (Option (String Global))) (os left : List (Outcome J)) (text text' : Text) (told : Option Text)
    → GrowsBy told true text text' → left ≡ os
    → (reply : Text) × (text' ≡ text ++ reply)
    × (option_map_or (λ r. r ∷ replies_of rest os) told [] ≡ reply ∷ replies_of rest left)
    × (option_map_or (λ r. all_told rest os) told false ≡ all_told rest left)
outcome_told rest os left text text' (Some reply) grown is =
    (reply, grown.1, ap (λ xs. reply ∷ replies_of rest xs) (sym is), ap (all_told rest) (sym is))
outcome_told rest os left text text' None grown is = absurd (true≢false grown.0)

outcome_untold : {J : Type 0} (rest : List (Option (String Global))) (os : List (Outcome J)) (text text' : Text) (told : Option Text)
    → GrowsBy told false text text'
    → (text' ≡ text) × (option_map_or (λ r. r ∷ replies_of rest os) told [] ≡ []) × (option_map_or (λ r. all_told rest os) told false ≡ false)
outcome_untold rest os text text' (Some reply) grown = absurd (true≢false (sym grown.0))
outcome_untold rest os text text' None grown = (grown.1, refl, refl)

-- the next line has a reply, by which the text has grown
next_told : {J : Type 0} (at_once : Option (String Global)) (rest : List (Option (String Global))) (os left : List (Outcome J)) (text text' : Text)
    → NextReply at_once os left true text text'
    → (reply : Text) × (text' ≡ text ++ reply) × (replies_of (at_once ∷ rest) os ≡ reply ∷ replies_of rest left)
    × (all_told (at_once ∷ rest) os ≡ all_told rest left)
next_told (Some reply) rest os left text text' next =
    (string_bytes reply, next.0.1, ap (λ xs. string_bytes reply ∷ replies_of rest xs) (sym next.1), ap (all_told rest) (sym next.1))
next_told None rest [] left text text' next = absurd (true≢false next.0)
next_told None rest (o ∷ os) left text text' next = outcome_told rest os left text text' (outcome_text o) next.0 next.1

none_next : {J : Type 0} (at_once : Option (String Global)) (rest : List (Option (String Global))) (os left : List (Outcome J)) (text text' : Text)
    → NextReply at_once os left false text text'
    → (text' ≡ text) × (replies_of (at_once ∷ rest) os ≡ []) × (all_told (at_once ∷ rest) os ≡ false)
none_next (Some reply) rest os left text text' next = absurd (true≢false (sym next.0.0))
none_next None rest [] left text text' next = (next.1, refl, refl)
none_next None rest (o ∷ os) left text text' next = outcome_untold rest os text text' (outcome_text o) next.0

pub lines_of_none : lines_text [] ≡ []
unfolding lines_text
lines_of_none = refl

lines_with : (line : Text) (lines : List Text) → lines_text (line ∷ lines) ≡ (line ++ 10 ∷ []) ++ lines_text lines
unfolding lines_text
lines_with line lines = refl

module _ {J : Type 0} (start : Text) (told : List (Option (String Global))) (at_once : Option (String Global)) (rest : List (Option (String Global)))
    (os before left : List (Outcome J)) (text text' : Text) (is : IsToldTo start told (at_once ∷ rest) os before text) where
  -- with one reply more
  pub one_told : NextReply at_once before left true text text' → IsToldTo start told rest os left (text' ++ 10 ∷ [])
  one_told next =
      let (line, grown, replies, all) = next_told at_once rest before left text text' next in record {
        parts = ap (λ t. (t ++ 10 ∷ []) ++ lines_text (replies_of rest left)) grown
            ∙ append_assoc (text ++ line) (10 ∷ []) (lines_text (replies_of rest left))
            ∙ append_assoc text line ((10 ∷ []) ++ lines_text (replies_of rest left))
            ∙ ap (λ more. text ++ more) (sym (append_assoc line (10 ∷ []) (lines_text (replies_of rest left))))
            ∙ ap (λ more. text ++ more) (sym (lines_with line (replies_of rest left)) ∙ ap lines_text (sym replies))
            ∙ is.parts;
        whole = sym all ∙ is.whole;
      }

  -- where there is none, the text is all that there is
  pub no_more_text : NextReply at_once before left false text text' → text' ≡ start ++ lines_text (replies_of told os)
  no_more_text next =
      let (same, none, _) = none_next at_once rest before left text text' next in
      same ∙ sym (append-nil text) ∙ ap (λ more. text ++ more) (sym (ap lines_text none ∙ lines_of_none)) ∙ is.parts

  pub not_whole : NextReply at_once before left false text text' → false ≡ all_told told os
  not_whole next = sym (none_next at_once rest before left text text' next).2 ∙ is.whole

-- the lines from one on
pub lines_from : {A : Type 0} (xs : List A) (i : ℕ) (x : A) → i < length xs → x ≡ get_or xs i x → drop i xs ≡ x ∷ drop (i + 1) xs
lines_from xs i x below is = rw add-one (drop-cons xs i x below ∙ ap (λ y. y ∷ drop (suc i) xs) (sym is))

-- no line is left
pub all_text : {J : Type 0} (start : Text) (told rest : List (Option (String Global))) (os left : List (Outcome J)) (text : Text) → rest ≡ []
    → IsToldTo start told rest os left text → text ≡ start ++ lines_text (replies_of told os)
all_text start told rest os left text none is =
    let now : IsToldTo start told [] os left text = subst (λ xs. IsToldTo start told xs os left text) none is in
    sym (append-nil text) ∙ ap (λ more. text ++ more) (sym lines_of_none) ∙ now.parts

pub is_whole : {J : Type 0} (start : Text) (told rest : List (Option (String Global))) (os left : List (Outcome J)) (text : Text) → rest ≡ []
    → IsToldTo start told rest os left text → true ≡ all_told told os
is_whole start told rest os left text none is = (subst (λ xs. IsToldTo start told xs os left text) none is).whole
