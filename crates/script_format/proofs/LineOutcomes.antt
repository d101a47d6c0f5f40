-- What lines come to before their steps are taken.
use Rattle.std.proofs.Common.{◌≡◌, ◌∙◌, ap, sym, Some, unwrap_or, Result, Ok, Err, String}
use Rattle.std.specs.Option.{option_map_or}
use Rattle.std.specs.declared.alloc.Global.{Global}
use Rattle.serde_json.specs.Data.{Data}
use Rattle.serde_json.specs.Find.{at}
use Rattle.filing_model.specs.Common.Text.{Text}
use Rattle.filing_model.specs.Oim.Facts.{Table}
use Rattle.filing_model.specs.Sessions.Calls.{Call}
use Rattle.filing_step.specs.Steps.{step_of}
use Rattle.filing_step.specs.declared.step.Step.{Step}
use Rattle.script_format.specs.AskedStep.{IsAsked}
use Rattle.script_format.specs.ReplyText.{bad_line_text}
use Rattle.script_format.specs.ScriptLines.{Asking, Ask, Load, line_of}
use Rattle.script_format.specs.Script.{ReplyNow, call_read, value_outcome, asking_outcome, line_outcome, load_outcome, report_in}
use Rattle.script_format.proofs.AskedSteps.{call_of_asked, refusal_outcome}
use Rattle.script_format.proofs.ReportOfLoad.{loaded_part}
use Rattle.script_format.specs.declared.line_outcome.LineOutcome.{LineOutcome}
use Rattle.script_format.specs.declared.line_outcome.LineOutcome.TheVariants as before
use Rattle.script_format.specs.LineOutcomes.{state_of, outcome_under, ComesTo, ComesToBy}

-- what is asked comes to the step that makes the call which was read
pub asked_step : (session : Text) (s : Step) (reading : Result Call Text) (j : LineOutcome) → IsAsked (Ok s) reading
    → ComesTo (λ state. outcome_under state session (step_of s)) j → ComesTo (λ state. asking_outcome state session reading) j
asked_step session s reading j asked due state =
    let (c, (is_read, makes)) = call_of_asked s reading asked in
    ap (asking_outcome state session) is_read ∙ ap (outcome_under state session) (sym makes) ∙ due state

-- or is told how its parts are refused
pub asked_text : (session : Text) (text : String Global) (reading : Result Call Text) → IsAsked (Err text) reading
    → ComesTo (λ state. asking_outcome state session reading) (before.ReplyNow text)
asked_text session text reading asked state = refusal_outcome state session text reading asked

-- a load of the third part of a value is what the value comes to
pub load_of_value : (table : Table) (d r report : Data) (key name : Text) (j : LineOutcome) → Some (Load key r) ≡ line_of d → name ≡ key → Some report ≡ at 2 d
    → ComesToBy table (λ state. load_outcome state name (report_in table report)) j → ComesToBy table (λ state. value_outcome state (Some d)) j
load_of_value table d r report key name j is named part comes h names =
    let state = state_of table h names in
    let same : r ≡ report = ap (λ o. unwrap_or o r) (sym (part ∙ loaded_part d key r is)) in
    ap (λ o. option_map_or (line_outcome state) o (ReplyNow bad_line_text)) (sym is)
    ∙ (λ i. load_outcome state (sym named i) (report_in table (same i)))
    ∙ comes h names

-- and so is what is asked of a session
pub ask_of_value : (table : Table) (d : Data) (key session : Text) (asking : Asking) (j : LineOutcome) → Some (Ask key asking) ≡ line_of d → session ≡ key
    → ComesTo (λ state. asking_outcome state session (call_read asking)) j → ComesToBy table (λ state. value_outcome state (Some d)) j
ask_of_value table d key session asking j is named comes h names =
    let state = state_of table h names in
    ap (λ o. option_map_or (line_outcome state) o (ReplyNow bad_line_text)) (sym is)
    ∙ (λ i. asking_outcome state (sym named i) (call_read asking))
    ∙ comes state
