-- The lines of a script that are classified as one batch. The project's own.
use Rattle.std.specs.Prelude.{◌≡◌, ◌+◌, ◌<◌, ◌≤◌, Bool, true, MatchBool, List, [], ◌∷◌, ◌++◌, length}
use Rattle.std.specs.declared.alloc.Global.{Global}
use Rattle.std.specs.declared.string.String.{String}
use Rattle.std.specs.Prelude.{Option, Some, None, string_bytes}
use Rattle.script_format.specs.ReplyText.{bad_line_text}
use Rattle.script_format.specs.declared.line_outcome.LineOutcome.{LineOutcome}
use Rattle.script_format.specs.declared.line_outcome.LineOutcome.TheVariants.{ReplyNow, Export, StepDue}
use Rattle.filing_model.specs.Common.Text.{Text}
use Rattle.filing_model.specs.Oim.Facts.{Table}
use Rattle.line_io.specs.Lines.{lines_of, spoken}
use Rattle.filing_office.specs.declared.work.DeskStep.{DeskStep}
use Rattle.filing_threads.specs.declared.batch.Batch.{Batch}
use Rattle.filing_threads.specs.Lines.{AreClassified, BeginsDeep, IsDeepLine}

-- a line that was classified so is appended to those of a batch
abbrev pub Adds : LineOutcome → List (Option (String Global)) → List (Option (String Global))
    → List DeskStep → List DeskStep → Type 0
Adds (ReplyNow text) told told' steps steps' = (told' ≡ told ++ Some text ∷ []) × (steps' ≡ steps)
Adds (Export name) told told' steps steps' =
    (text : String Global) × (string_bytes text ≡ bad_line_text) × (told' ≡ told ++ Some text ∷ []) × (steps' ≡ steps)
Adds (StepDue name step) told told' steps steps' =
    (told' ≡ told ++ None ∷ []) × (steps' ≡ steps ++ record { name = name; step = step } ∷ [])

abbrev pub AddsOutcome : LineOutcome → Batch → Batch → Type 0
AddsOutcome j old new = Adds j old.told.items new.told.items old.steps.items new.steps.items
    × (new.ends_deep ≡ old.ends_deep)

-- one more line is classified behind those of a batch
pub record AddsLine (journaled : Bool) (table : Table) (line : Text) (old new : Batch) : Type 0 where
  pub told : List (Option (String Global))
  pub steps : List DeskStep
  pub told_are : new.told.items ≡ old.told.items ++ told
  pub steps_are : new.steps.items ≡ old.steps.items ++ steps
  pub classified : AreClassified journaled table (line ∷ []) told steps
  pub same_end : new.ends_deep ≡ old.ends_deep

-- it is added, or it nests too deep for the journal, and the batch ends before it
abbrev pub Classifies : Bool → Table → Text → Batch → Batch → Bool → Type 0
Classifies journaled table line old new added =
    MatchBool added (AddsLine journaled table line old new)
    (IsDeepLine journaled table line × (new ≡ record old { ends_deep = true }))

-- the first lines of a text that are not blank are classified, and the others are to come;
-- a batch without a line ends before one that nests too deep
pub record AreBatch (journaled : Bool) (table : Table) (text rest : Text) (batch : Batch) : Type 0 where
  pub lines : List Text
  pub parts : spoken (lines_of text) ≡ lines ++ spoken (lines_of rest)
  pub classified : AreClassified journaled table lines batch.told.items batch.steps.items
  pub fewer : length batch.told.items + length rest ≤ length text
  pub ends : MatchBool batch.ends_deep (BeginsDeep journaled table (spoken (lines_of rest))) (length rest < length text)
