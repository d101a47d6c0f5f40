-- What the lines of a script among threads come to before their steps are taken. The project's own.
use Rattle.std.specs.Prelude.{◌≡◌, Bool, true, false, not, ◌&&◌, List, [], ◌∷◌, Option, Some, None, string_bytes}
use Rattle.std.specs.declared.string.String.{String}
use Rattle.std.specs.declared.alloc.Global.{Global}
use Rattle.filing_model.specs.Common.Text.{Text}
use Rattle.filing_model.specs.Oim.Facts.{Table}
use Rattle.script_format.specs.ReplyText.{bad_line_text}
use Rattle.script_format.specs.LineOutcomes.{IsLineOutcome}
use Rattle.script_format.specs.declared.line_outcome.LineOutcome.{LineOutcome}
use Rattle.script_format.specs.declared.line_outcome.LineOutcome.TheVariants.{ReplyNow, Export, StepDue}
use Rattle.filing_step.specs.Steps.{step_of}
use Rattle.history_format.specs.Nesting.{begins_shallow}
use Rattle.filing_office.specs.declared.work.DeskStep.{DeskStep}

-- the reply to a line that takes no step: among threads an export is a bad line
abbrev pub at_once : LineOutcome → Option Text
at_once (ReplyNow text) = Some (string_bytes text)
at_once (Export name) = Some bad_line_text
at_once (StepDue name step) = None

abbrev pub IsToldAtOnce : Table → Text → Text → Type 0
IsToldAtOnce table line text = (j : LineOutcome) × IsLineOutcome table line j × (at_once j ≡ Some text)

-- whether an outcome is a step whose entry nests too deep for a journal up to its reply, whatever its session
abbrev pub begins_deep : LineOutcome → Bool
begins_deep (ReplyNow text) = false
begins_deep (Export name) = false
begins_deep (StepDue name step) = not (begins_shallow None (step_of step))

-- a journal is kept, and is not given the entry
abbrev pub is_left_out : Bool → LineOutcome → Bool
is_left_out journaled j = journaled && begins_deep j

-- the line takes the step, which is not left out
pub record TakesStep (journaled : Bool) (table : Table) (line : Text) (step : DeskStep) : Type 0 where
  pub outcome : IsLineOutcome table line (StepDue step.name step.step)
  pub taken : is_left_out journaled (StepDue step.name step.step) ≡ false

-- each of these lines is replied to at once so, or takes the next of these steps
abbrev pub AreClassified : Bool → Table → List Text → List (Option (String Global)) → List DeskStep → Type 0
AreClassified journaled table [] told steps = (told ≡ []) × (steps ≡ [])
AreClassified journaled table (line ∷ lines) [] steps = ⊥
AreClassified journaled table (line ∷ lines) (Some text ∷ told) steps =
    IsToldAtOnce table line (string_bytes text) × AreClassified journaled table lines told steps
AreClassified journaled table (line ∷ lines) (None ∷ told) [] = ⊥
AreClassified journaled table (line ∷ lines) (None ∷ told) (step ∷ steps) =
    TakesStep journaled table line step × AreClassified journaled table lines told steps

-- ---- lines that nest too deep for a journal

-- a journal is kept, and is not given the entry of the step that the line would take
pub record IsDeepLine (journaled : Bool) (table : Table) (line : Text) : Type 0 where
  pub due : LineOutcome
  pub outcome : IsLineOutcome table line due
  pub left_out : is_left_out journaled due ≡ true

-- the next of these lines is such a one
pub record BeginsDeep (journaled : Bool) (table : Table) (later : List Text) : Type 0 where
  pub line : Text
  pub others : List Text
  pub next : later ≡ line ∷ others
  pub deep : IsDeepLine journaled table line
