-- What a line comes to before its step is taken, whatever the history and the names in use. The project's own.
use Rattle.std.specs.Prelude.{◌≡◌, ℕ, None, string_bytes}
use Rattle.filing_model.specs.Common.Text.{Text}
use Rattle.filing_model.specs.Common.TextMap.{TextMap}
use Rattle.filing_model.specs.Reading.JsonText.{json_of}
use Rattle.filing_model.specs.Oim.Facts.{Table}
use Rattle.filing_model.specs.Histories.History.{History, Step, Load, Open, Ask, Commit, Close}
use Rattle.filing_step.specs.Steps.{step_of}
use Rattle.script_format.specs.Script.{State, Outcome, ReplyNow, StepDue, value_outcome, open_outcome, call_outcome, end_outcome, export_outcome}
use Rattle.script_format.specs.declared.line_outcome.LineOutcome.{LineOutcome}
use Rattle.script_format.specs.declared.line_outcome.LineOutcome.TheVariants as before

-- the state of a script by this table, with this history and these names in use
abbrev pub state_of : Table → History → TextMap ℕ → State
state_of table h names = record { table = table; history = h; names = names }

-- the outcome of a step under a name: a load is of no session, an opening takes the name, any other step is of the session that has it
abbrev pub outcome_under : State → Text → Step → Outcome
outcome_under state name (Load report r) = StepDue None (Load report r) state.names
outcome_under state name (Open kind) = open_outcome state name kind
outcome_under state name (Ask call) = call_outcome state name call
outcome_under state name Commit = end_outcome state name Commit
outcome_under state name Close = end_outcome state name Close

-- the outcome of a line of this kind, in a state
abbrev pub outcome_of : State → LineOutcome → Outcome
outcome_of state (before.ReplyNow text) = ReplyNow (string_bytes text)
outcome_of state (before.Export name) = export_outcome state (string_bytes name)
outcome_of state (before.StepDue name step) = outcome_under state (string_bytes name) (step_of step)

-- in each state this is the outcome of a line of this kind
abbrev pub ComesTo : (State → Outcome) → LineOutcome → Type 0
ComesTo outcome j = (state : State) → outcome state ≡ outcome_of state j

-- so in each state by this table, whatever its history and its names
abbrev pub ComesToBy : Table → (State → Outcome) → LineOutcome → Type 0
ComesToBy table outcome j = (h : History) (names : TextMap ℕ)
    → outcome (state_of table h names) ≡ outcome_of (state_of table h names) j

-- and of a line
abbrev pub IsLineOutcome : Table → Text → LineOutcome → Type 0
IsLineOutcome table text j = ComesToBy table (λ state. value_outcome state (json_of text)) j
