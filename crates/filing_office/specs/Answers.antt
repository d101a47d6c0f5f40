-- What a step under the lock is answered. The project's own.
use Rattle.std.specs.Prelude.{◌≡◌, ℕ, ◌∷◌, cond, Bool, true, false, Option, Some, None, option_map, IsSome, IsTrue, Result, Ok, Err, string_bytes}
use Rattle.filing_model.specs.Sessions.Replies as reply
use Rattle.filing_model.specs.Histories.History.{Step, Load, Open, Ask, Commit, Close, History}
use Rattle.filing_model.specs.Histories.Lawful.{entered_under}
use Rattle.filing_model.specs.Histories.Versions.{counts, versions}
use Rattle.filing_step.specs.Steps.{reply_of, step_of}
use Rattle.filing_core.specs.Answers.{IsEntered, IsRefused, IsLeft}
use Rattle.filing_core.specs.declared.fault.CoreFault.{CoreFault}
use Rattle.filing_core.specs.declared.fault.CoreFault.TheVariants.{NoSession, NoMemory}
use Rattle.filing_core.specs.Prepared.{Preparation}
use Rattle.filing_office.specs.declared.answer.Answer.{Answer}
use Rattle.filing_office.specs.declared.ready_step.ReadyStep.{ReadyStep}
use Rattle.filing_office.specs.declared.ready_step.ReadyStep.TheVariants as ready

-- one entry more, whose session and reply the answer tells
-- a receipt is there exactly where the entry makes a version, and has the versions of the history as it is then
pub record IsTold {J : Type 0} (old new : History) (session : Option ℕ) (step : Step) (a : Answer J) : Type 0 where
  pub entered : IsEntered old new session step (reply_of a.reply)
  pub under : a.session ≡ entered_under old session step
  pub receipt_is : a.receipt ≡ cond (counts (reply_of a.reply)) (Some (versions new)) None

abbrev pub ApplyAnswers : {J : Type 0} → History → History → Option ℕ → Step → Result (Answer J) CoreFault → Type 0
ApplyAnswers old new session step (Ok a) = IsTold old new session step a
ApplyAnswers old new session step (Err NoSession) = IsRefused old new session step
ApplyAnswers old new session step (Err NoMemory) = IsLeft old new session step

-- a prepared step was entered, and the version that it makes published
pub record IsSettled {J : Type 0} (old new : History) (p : Preparation) (a : Answer J) : Type 0 where
  pub entered : new ≡ p.entry ∷ old
  pub replied : reply_of a.reply ≡ p.entry.reply
  pub under : a.session ≡ p.entry.session
  pub receipt_is : a.receipt ≡ option_map (λ _. versions new) p.next

-- the step that was made ready
abbrev pub step_made_ready : ReadyStep → Step
step_made_ready (ready.Load name report) = Load (string_bytes name) report
step_made_ready (ready.Other step) = step_of step

-- ---- whatever the history

abbrev pub is_of_session : Step → Bool
is_of_session (Load name r) = false
is_of_session (Open kind) = false
is_of_session (Ask call) = true
is_of_session Commit = true
is_of_session Close = true

-- a load has no session, an opening opens one, and every other step is of the session that it names
abbrev pub IsToldUnder : {J : Type 0} → Option ℕ → Step → Answer J → Type 0
IsToldUnder session (Load name r) a = a.session ≡ None
IsToldUnder session (Open kind) a = IsSome a.session × (reply_of a.reply ≡ reply.Opened)
IsToldUnder session (Ask call) a = a.session ≡ session
IsToldUnder session Commit a = a.session ≡ session
IsToldUnder session Close a = a.session ≡ session

-- only a step of a session can be of one that is not open
abbrev pub StepTold : {J : Type 0} → Option ℕ → Step → Result (Answer J) CoreFault → Type 0
StepTold session step (Ok a) = IsToldUnder session step a
StepTold session step (Err NoSession) = IsTrue (is_of_session step)
StepTold session step (Err NoMemory) = Unit {0}
