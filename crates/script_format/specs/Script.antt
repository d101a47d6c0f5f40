-- The output of a script by a numeric table: a reply to each line that is not blank. The project's own.
-- The history so far and the names in use are carried from line to line.
use Rattle.std.specs.Prelude.{ℕ, ◌+◌, if◌then◌else◌, [], Option, Some, None, is_some, option_and_then, Result, Ok, Err}
use Rattle.std.specs.Option.{option_map_or}
use Rattle.std.specs.Result.{result_map_both}
use Rattle.serde_json.specs.Data.{Data, string}
use Rattle.filing_model.specs.Common.TextMap.{TextMap, empty, get, insert, remove}
use Rattle.filing_model.specs.Reading.JsonText.{json_of}
use Rattle.filing_model.specs.Oim.Facts.{Table}
use Rattle.filing_model.specs.Oim.Reports.{Report}
use Rattle.filing_model.specs.Sessions.Repository.{report_at}
use Rattle.filing_model.specs.Sessions.Replies.{NoReport}
use Rattle.filing_model.specs.Reading.ReadFact.{raw_fact_of, dims_read}
use Rattle.filing_model.specs.Reading.ReadReport.{ReportFault, report_of, read_report_of}
use Rattle.filing_model.specs.Sessions.Calls as call
use Rattle.filing_model.specs.Sessions.Calls.{Call}
use Rattle.filing_model.specs.Histories.History as step
use Rattle.filing_model.specs.Histories.History.{Step, History, repository}
use Rattle.filing_model.specs.Histories.Lawful.{openings, next_reply, after_step}
use Rattle.filing_model.specs.declared.kind.Kind.{Kind}
use Rattle.filing_model.specs.declared.faults.Trouble.{Trouble}
use Rattle.filing_model.specs.declared.faults.Trouble.TheVariants as trouble
use Rattle.filing_model.specs.Common.Text.{Text}
use Rattle.line_io.specs.Lines.{lines_of, spoken, lines_text}
use Rattle.line_io.specs.Run.{replies_by, state_after}
use Rattle.script_format.specs.ReplyText.{reply_text, bad_line_text, name_in_use_text, no_session_text, bad_report_text, bad_fact_text, exported_text}
use Rattle.script_format.specs.ScriptLines.{Asking, Get, Cell, Page, Add, Remove, Declared, Declare, Line, Load, Open, Ask, Commit, Close, Export, line_of}

-- the numeric table that reports are read by, the history so far, newest entry first, and the names in use with the numbers of their sessions
pub record State : Type 0 where
  pub table : Table
  pub history : History
  pub names : TextMap ℕ

-- before the first line
abbrev pub start : Table → State
start table = record { table = table; history = []; names = empty }

-- ---- the outcome of a line

-- a reply at once, or a step under a session's number, with the names that are in use once it is taken
pub data Outcome : Type 0 where
  ReplyNow : Text → Outcome
  StepDue : Option ℕ → Step → TextMap ℕ → Outcome

abbrev pub load_outcome : State → Text → Result Report ReportFault → Outcome
load_outcome state name (Err fault) = ReplyNow (bad_report_text fault)
load_outcome state name (Ok r) = StepDue None (step.Load name r) state.names

-- the name will be that of the next session
abbrev pub open_outcome : State → Text → Kind → Outcome
open_outcome state session kind =
    if is_some (get state.names session) then ReplyNow name_in_use_text
    else StepDue None (step.Open kind) (insert state.names session (openings state.history + 1))

-- a step of the session that has the name, which keeps it
abbrev pub step_outcome : State → Text → Step → Outcome
step_outcome state session s = option_map_or (λ number. StepDue (Some number) s state.names)
    (get state.names session) (ReplyNow no_session_text)

abbrev pub call_outcome : State → Text → Call → Outcome
call_outcome state session c = step_outcome state session (step.Ask c)

-- how dimensions are refused in reading. A line whose dimensions are not texts and nulls is none of the kinds
abbrev pub bad_dims_text : Trouble → Text
bad_dims_text trouble.WrongShape = bad_line_text
bad_dims_text fault = bad_fact_text fault

-- the call that is asked for, or how its parts are refused in reading
abbrev pub call_read : Asking → Result Call Text
call_read (Get name id) = Ok (call.Get name id)
call_read (Cell name d) = result_map_both (call.Cell name) bad_dims_text (dims_read d)
call_read (Page name query limit) = Ok (call.Page name query limit)
call_read (Add name id d) = result_map_both (call.Add name id) bad_fact_text (raw_fact_of d)
call_read (Remove name id) = Ok (call.Remove name id)
call_read (Declared name) = Ok (call.Declared name)
call_read (Declare name allowed) = Ok (call.Declare name allowed)

abbrev pub asking_outcome : State → Text → Result Call Text → Outcome
asking_outcome state session (Err text) = ReplyNow text
asking_outcome state session (Ok c) = call_outcome state session c

-- a step that ends the session and frees its name
abbrev pub end_outcome : State → Text → Step → Outcome
end_outcome state session end = option_map_or
    (λ number. StepDue (Some number) end (remove state.names session))
    (get state.names session) (ReplyNow no_session_text)

-- the report of a load by this numeric table: an object, or the text of one
abbrev pub report_in : Table → Data → Result Report ReportFault
report_in table (string text) = read_report_of table text
report_in table d = report_of table d

-- the report as the current version has it. That is no step
abbrev pub export_outcome : State → Text → Outcome
export_outcome state name =
    ReplyNow (option_map_or exported_text (report_at (repository state.history) name) (reply_text NoReport))

abbrev pub line_outcome : State → Line → Outcome
line_outcome state (Load name r) = load_outcome state name (report_in state.table r)
line_outcome state (Open session kind) = open_outcome state session kind
line_outcome state (Ask session asking) = asking_outcome state session (call_read asking)
line_outcome state (Commit session) = end_outcome state session step.Commit
line_outcome state (Close session) = end_outcome state session step.Close
line_outcome state (Export name) = export_outcome state name

-- of the value that the line is, where it is JSON
abbrev pub value_outcome : State → Option Data → Outcome
value_outcome state value = option_map_or (line_outcome state) (option_and_then line_of value) (ReplyNow bad_line_text)

-- ---- replies

-- the reply to a step is the one that keeps the history lawful. None does for a session that is not open, and the names in use are of open ones alone
abbrev pub step_text : History → Option ℕ → Step → Text
step_text h session s = option_map_or reply_text (next_reply h session s) no_session_text

-- a reply, and what is carried on
abbrev pub answered : State → Outcome → Text × State
answered state (ReplyNow text) = (text, state)
answered state (StepDue session s names) = (
  step_text state.history session s,
  record { table = state.table; history = after_step state.history session s; names = names },
)

-- of a line that is this JSON value, or none
abbrev pub value_answer : State → Option Data → Text × State
value_answer state value = answered state (value_outcome state value)

unfoldable pub line_answer : State → Text → Text × State
line_answer state line = value_answer state (json_of line)

-- what a script has as its output by this numeric table: a line for each reply
unfoldable pub script_output : Table → Text → Text
script_output table input = lines_text (replies_by line_answer (start table) (spoken (lines_of input)))

-- the history that a script makes, newest entry first
unfoldable pub script_history : Table → Text → History
script_history table input = (state_after line_answer (start table) (spoken (lines_of input))).history
