-- A script between two batches of its lines: private to the crate.
use Rattle.std.specs.Prelude.{◌≡◌, ℕ, ◌+◌, ◌≤◌, Bool, List, [], ◌++◌, length, Option, Result, Ok, Err}
use Rattle.std.specs.declared.alloc.AllocError.{AllocError}
use Rattle.std.specs.declared.alloc.Global.{Global}
use Rattle.std.specs.declared.string.String.{String}
use Rattle.filing_model.specs.Common.Text.{Text}
use Rattle.filing_model.specs.Oim.Facts.{Table}
use Rattle.line_io.specs.Lines.{lines_of, spoken, lines_text}
use Rattle.filing_office.specs.Runs.{RunState, Runs, Learns}
use Rattle.filing_office.specs.declared.outcome.Outcome.{Outcome}
use Rattle.filing_office.specs.declared.work.DeskStep.{DeskStep}
use Rattle.filing_office.proofs.LearntBetween.{IsAhead}
use Rattle.filing_threads.specs.Lines.{AreClassified}
use Rattle.filing_threads.specs.Telling.{replies_of, all_told, AllUsed}

-- outcomes are let go once their receipts are learnt; where memory was wanted for that, all are kept
abbrev pub KeptBy : {J : Type 0} → Result (Unit {0}) AllocError → List (Outcome J) → List (Outcome J) → Type 0
KeptBy (Ok x) told kept = kept ≡ []
KeptBy (Err e) told kept = kept ≡ told

abbrev pub LetsGo : {J : Type 0} → RunState → RunState → List (Outcome J) → List (Outcome J) → Type 0
LetsGo s t told kept = (result : Result (Unit {0}) AllocError) × Learns s t told s.seen result × KeptBy result told kept

-- the steps of a batch are taken after these outcomes, and the text has grown by its replies
pub record TakesBatch {J : Type 0} (told : List (Option (String Global))) (steps : List DeskStep) (s t : RunState)
    (kept kept' : List (Outcome J)) (text text' : Text) (whole : Bool) : Type 0 where
  pub mid : RunState
  pub outcomes : List (Outcome J)
  pub runs : Runs s mid kept steps outcomes
  pub text_is : text' ≡ text ++ lines_text (replies_of told outcomes)
  pub whole_is : whole ≡ all_told told outcomes
  pub lets_go : LetsGo mid t (kept ++ outcomes) kept'

-- the lines before the rest are classified and answered, by the outcomes that are kept and others that were let go
pub record IsUnderWay {J : Type 0} (journaled : Bool) (table : Table) (script rest : Text)
    (start now : RunState) (kept : List (Outcome J))
    (text : Text) (answered : ℕ) : Type 0 where
  pub lines : List Text
  pub parts : spoken (lines_of script) ≡ lines ++ spoken (lines_of rest)
  pub told : List (Option (String Global))
  pub steps : List DeskStep
  pub classified : AreClassified journaled table lines told steps
  pub outcomes : List (Outcome J)
  pub gone : List (Outcome J)
  pub are : outcomes ≡ gone ++ kept
  pub used : AllUsed told outcomes
  pub left : RunState
  pub runs : Runs start left [] steps outcomes
  pub ahead : IsAhead left now gone
  pub text_is : text ≡ lines_text (replies_of told outcomes)
  pub many : answered ≡ length told
  pub fewer : answered + length rest ≤ length script
