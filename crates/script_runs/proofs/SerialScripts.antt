-- Each script is serial.
use Rattle.std.proofs.Common.{refl, List, [], ◌∷◌}
use Rattle.filing_model.specs.Common.Text.{Text}
use Rattle.filing_model.specs.Oim.Facts.{Table}
use Rattle.filing_model.specs.Reading.JsonText.{json_of}
use Rattle.filing_model.specs.Histories.History.{History}
use Rattle.filing_model.specs.Histories.Lawful.{IsLawful, next_reply}
use Rattle.filing_laws.proofs.Histories.PlayedHistories.{step_is_lawful}
use Rattle.filing_laws.proofs.Serial.LawfulIsSerial.{each_lawful_history_is_serial}
use Rattle.line_io.specs.Lines.{spoken}
use Rattle.line_io.specs.Run.{state_after}
use Rattle.script_format.specs.Script.{Outcome, ReplyNow, State, StepDue, answered, value_outcome, line_answer}
use Rattle.script_runs.specs.Resumed.{history_on, resumed}
use Rattle.filing_core.specs.Engines.{EngineState}
use Rattle.script_runs.specs.Serial.{EachScriptIsSerial, GoesOnSerially}

outcome_lawful : (state : State) (outcome : Outcome) → IsLawful state.history → IsLawful (answered state outcome).1.history
outcome_lawful state (ReplyNow text) lawful = lawful
outcome_lawful state (StepDue session step names) lawful = step_is_lawful state.history session step lawful (next_reply state.history session step) refl

answered_line : (state : State) (line : Text) → IsLawful state.history → IsLawful (line_answer state line).1.history
unfolding line_answer
answered_line state line lawful = outcome_lawful state (value_outcome state (json_of line)) lawful

answered_lines : (lines : List Text) (state : State) → IsLawful state.history → IsLawful (state_after line_answer state lines).history
answered_lines [] state lawful = lawful
answered_lines (line ∷ lines) state lawful = answered_lines lines (line_answer state line).1 (answered_line state line lawful)

lawful_on : (table : Table) (h : History) (lines : List Text) → IsLawful h → IsLawful (history_on table h lines)
unfolding history_on
lawful_on table h lines lawful = answered_lines (spoken lines) (resumed table h) lawful

pub each_script_is_serial : EachScriptIsSerial
each_script_is_serial table h lines lawful =
    let on = lawful_on table h lines lawful in
    record { lawful = on; serial = each_lawful_history_is_serial (history_on table h lines) on }

pub goes_on_serially : (table : Table) (e : EngineState) → GoesOnSerially table e
goes_on_serially table e h is lines = each_script_is_serial table h lines is.kept.lawful
