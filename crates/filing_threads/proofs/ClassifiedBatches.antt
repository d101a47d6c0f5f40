-- The lines of a batch, classified.
use Rattle.std.proofs.Common.{◌≡◌, ◌∙◌, ◌+◌, ◌<◌, ◌≤◌, ap, sym, subst, arith, refl, Bool, true, false, MatchBool, List, []}
use Rattle.std.proofs.Common.{◌∷◌, ◌++◌, append_assoc, length, length-append, Option, Some, None, String}
use Rattle.std.specs.declared.alloc.Global.{Global}
use Rattle.filing_model.specs.Common.Text.{Text}
use Rattle.filing_model.specs.Oim.Facts.{Table}
use Rattle.filing_office.specs.declared.work.DeskStep.{DeskStep}
use Rattle.line_io.specs.Lines.{lines_of, spoken}
use Rattle.filing_threads.specs.Lines.{AreClassified, BeginsDeep, IsDeepLine}
use Rattle.filing_threads.specs.declared.batch.Batch.{Batch}
use Rattle.filing_threads.specs.Batches.{AddsLine, AreBatch}
use Rattle.filing_threads.proofs.ClassifiedLines.{lines_further}

-- one line comes to one reply at once, or to one step
one_told : (journaled : Bool) (table : Table) (line : Text) (told : List (Option (String Global))) (steps : List DeskStep)
    → AreClassified journaled table (line ∷ []) told steps → length told ≡ 1
one_told journaled table line [] steps classified = absurd classified
one_told journaled table line (Some text ∷ told) steps classified = omega (arith, ap length classified.1.0)
one_told journaled table line (None ∷ told) [] classified = absurd classified
one_told journaled table line (None ∷ told) (step ∷ steps) classified = omega (arith, ap length classified.1.0)

-- lines are to come behind one that was added
goes_on : (journaled : Bool) (table : Table) (text rest : Text) (old new : Batch) → old.ends_deep ≡ false → new.ends_deep ≡ old.ends_deep
    → length rest < length text → MatchBool new.ends_deep (BeginsDeep journaled table (spoken (lines_of rest))) (length rest < length text)
goes_on journaled table text rest old new none same less =
    subst (λ (b : Bool). MatchBool b (BeginsDeep journaled table (spoken (lines_of rest))) (length rest < length text)) (sym (same ∙ none)) less

-- the first line
pub first_line : (journaled : Bool) (table : Table) (text line others : Text) (old new : Batch) → old.told.items ≡ [] → old.steps.items ≡ []
    → old.ends_deep ≡ false → spoken (lines_of text) ≡ line ∷ spoken (lines_of others) → length others < length text → AddsLine journaled table line old new
    → AreBatch journaled table text others new
first_line journaled table text line others old new none_told no_steps none_deep is less adds =
    let told : new.told.items ≡ adds.told = adds.told_are ∙ ap (λ xs. xs ++ adds.told) none_told in record {
      lines = line ∷ [];
      parts = is;
      classified =
          subst (λ told. AreClassified journaled table (line ∷ []) told new.steps.items) (sym told)
          (subst (λ steps. AreClassified journaled table (line ∷ []) adds.told steps) (sym (adds.steps_are ∙ ap (λ xs. xs ++ adds.steps) no_steps))
          adds.classified);
      fewer = omega (arith, less, ap length told, one_told journaled table line adds.told adds.steps adds.classified);
      ends = goes_on journaled table text others old new none_deep adds.same_end less;
    }

-- one line more
pub next_line : (journaled : Bool) (table : Table) (text rest line others : Text) (old new : Batch) → AreBatch journaled table text rest old
    → old.ends_deep ≡ false
    → spoken (lines_of rest) ≡ line ∷ spoken (lines_of others) → length others < length rest → AddsLine journaled table line old new
    → AreBatch journaled table text others new
next_line journaled table text rest line others old new are none_deep is less adds = record {
  lines = are.lines ++ line ∷ [];
  parts = are.parts ∙ ap (λ ls. are.lines ++ ls) is ∙ sym (append_assoc are.lines (line ∷ []) (spoken (lines_of others)));
  classified =
      subst (λ told. AreClassified journaled table (are.lines ++ line ∷ []) told new.steps.items) (sym adds.told_are)
      (subst (λ steps. AreClassified journaled table (are.lines ++ line ∷ []) (old.told.items ++ adds.told) steps) (sym adds.steps_are)
      (lines_further journaled table are.lines (line ∷ []) old.told.items adds.told old.steps.items adds.steps are.classified adds.classified));
  fewer = omega (
    arith,
    are.fewer,
    less,
    ap length adds.told_are,
    length-append old.told.items adds.told,
    one_told journaled table line adds.told
        adds.steps adds.classified,
  );
  ends = goes_on journaled table text others old new none_deep adds.same_end (omega (arith, are.fewer, less));
}

-- a line that nests too deep is the next
begins_deep : (journaled : Bool) (table : Table) (rest line : Text) (others : List Text) → spoken (lines_of rest) ≡ line ∷ others
    → IsDeepLine journaled table line
    → BeginsDeep journaled table (spoken (lines_of rest))
begins_deep journaled table rest line others is deep = record { line = line; others = others; next = is; deep = deep }

pub none_before : (journaled : Bool) (table : Table) (text line : Text) (others : List Text) (old new : Batch) → old.told.items ≡ [] → old.steps.items ≡ []
    → spoken (lines_of text) ≡ line ∷ others → IsDeepLine journaled table line → new ≡ record old { ends_deep = true } → AreBatch journaled table text text new
none_before journaled table text line others old new none_told no_steps is deep same =
    subst (λ (b : Batch). AreBatch journaled table text text b) (sym same) (record {
      lines = [];
      parts = refl;
      classified = (none_told, no_steps);
      fewer = omega (arith, ap length none_told);
      ends = begins_deep journaled table text line others is deep;
    })

pub ends_before : (journaled : Bool) (table : Table) (text rest line : Text) (others : List Text) (old new : Batch) → AreBatch journaled table text rest old
    → spoken (lines_of rest) ≡ line ∷ others → IsDeepLine journaled table line → new ≡ record old { ends_deep = true } → AreBatch journaled table text rest new
ends_before journaled table text rest line others old new are is deep same =
    subst (λ (b : Batch). AreBatch journaled table text rest b) (sym same) (record {
      lines = are.lines;
      parts = are.parts;
      classified = are.classified;
      fewer = are.fewer;
      ends = begins_deep journaled table rest line others is deep;
    })
