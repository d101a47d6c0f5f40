-- What a script among threads is told, and how its run ended. The project's own.
use Rattle.std.specs.Prelude.{◌≡◌, ◌+◌, Bool, true, false, length, List, [], ◌++◌, Option, string_bytes}
use Rattle.std.specs.declared.alloc.Global.{Global}
use Rattle.std.specs.declared.string.String.{String}
use Rattle.filing_model.specs.Common.Text.{Text}
use Rattle.filing_model.specs.Oim.Facts.{Table}
use Rattle.line_io.specs.Lines.{lines_of, spoken, lines_text}
use Rattle.filing_office.specs.Runs.{RunState, Runs}
use Rattle.filing_office.specs.declared.outcome.Outcome.{Outcome}
use Rattle.filing_office.specs.declared.work.DeskStep.{DeskStep}
use Rattle.filing_threads.specs.declared.replies.Ending.{Ending}
use Rattle.filing_threads.specs.declared.replies.Ending.TheVariants.{Whole, StepStarved, LineStarved, TooDeep}
use Rattle.filing_threads.specs.declared.replies.Replies.{Replies}
use Rattle.filing_threads.specs.Lines.{AreClassified, BeginsDeep}
use Rattle.filing_threads.specs.Telling.{replies_of, all_told}

-- how a run ended: each line of the script was classified and has its reply;
-- or memory was wanted for a step, after which no step was taken; or memory was wanted otherwise;
-- or the next line, of this number, nests too deep for the journal
abbrev pub EndsSo : {J : Type 0} → Bool → Table → Ending → List Text → List (Option (String Global))
    → List (Outcome J) → Type 0
EndsSo journaled table Whole later told outcomes = (later ≡ []) × (all_told told outcomes ≡ true)
EndsSo journaled table StepStarved later told outcomes = all_told told outcomes ≡ false
EndsSo journaled table LineStarved later told outcomes = all_told told outcomes ≡ true
EndsSo journaled table (TooDeep number) later told outcomes =
    BeginsDeep journaled table later × (all_told told outcomes ≡ true) × (number ≡ length told + 1)

-- the first lines of the script are classified, their steps are taken at a desk that begins in this state,
-- and the replies are those that lines have at once and those of the outcomes, in the order of the lines
pub record IsScriptRun (J : Type 0) (journaled : Bool) (table : Table) (script : Text) (start : RunState)
    (replies : Replies) : Type 0 where
  pub lines : List Text
  pub later : List Text
  pub parts : spoken (lines_of script) ≡ lines ++ later
  pub told : List (Option (String Global))
  pub steps : List DeskStep
  pub classified : AreClassified journaled table lines told steps
  pub outcomes : List (Outcome J)
  pub left : RunState
  pub runs : Runs start left [] steps outcomes
  pub text : string_bytes replies.text ≡ lines_text (replies_of told outcomes)
  pub ends : EndsSo journaled table replies.ending later told outcomes
