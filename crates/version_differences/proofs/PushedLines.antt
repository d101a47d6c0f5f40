-- Lines of which some are written, and the others are still to come.
use Rattle.std.proofs.Common.{◌≡◌, ◌∙◌, ap, sym, false, cond, List, [], ◌∷◌, ◌++◌, append_assoc, append-nil}
use Rattle.std.proofs.lemmas.List.Concat.{flat_map-append}
use Rattle.filing_model.specs.Common.Text.{Text}
use Rattle.filing_model.specs.declared.duplicates.Allowed.{Allowed}
use Rattle.filing_laws.specs.Histories.SameReplies.{allowed_eq}
use Rattle.version_differences.specs.Differences.{Line, Declared, declared_lines}
use Rattle.version_differences.specs.LineText.{line_text, lines_text}

pub text_joined : (xs ys : List Line) → lines_text (xs ++ ys) ≡ lines_text xs ++ lines_text ys
text_joined xs ys = flat_map-append line_text xs ys

-- one after another
pub written_both : (start out out' : Text) (xs ys : List Line) → out ≡ start ++ lines_text xs → out' ≡ out ++ lines_text ys
    → out' ≡ start ++ lines_text (xs ++ ys)
written_both start out out' xs ys first then =
    then ∙ ap (λ t. t ++ lines_text ys) first ∙ append_assoc start (lines_text xs) (lines_text ys) ∙ ap (λ t. start ++ t) (sym (text_joined xs ys))

-- one is written
pub one_written : (out out' : Text) (line : Line) → out' ≡ out ++ line_text line → out' ≡ out ++ lines_text (line ∷ [])
one_written out out' line is = is ∙ ap (λ t. out ++ t) (sym (append-nil (line_text line)))

pub value_written : (out out' name : Text) (from to : Allowed) → allowed_eq from to ≡ false → out' ≡ out ++ line_text (Declared name from to)
    → out' ≡ out ++ lines_text (declared_lines name from to)
value_written out out' name from to apart is =
    one_written out out' (Declared name from to) is ∙ ap (λ b. out ++ lines_text (cond b [] (Declared name from to ∷ []))) (sym apart)
