use Rattle.std.proofs.Common.{◌≡◌, ◌∙◌, ap, sym, string_bytes}
use Rattle.std.specs.Option.{option_map_or}
use Rattle.std.proofs.lemmas.Result.{IfOk-weaker}
use Rattle.filing_model.specs.Sessions.Repository.{report_at}
use Rattle.filing_model.specs.Sessions.Replies.{NoReport}
use Rattle.filing_model.specs.Histories.History.{repository}
use Rattle.script_format.specs.ReplyText.{exported_text, reply_text}
use Rattle.script_format.specs.Script.{ReplyNow, export_outcome}
use Rattle.filing_version.specs.StampedReports.{repository_in}
use Rattle.oim_report.proofs.GivenEntries.{of_what_was_found}
use Rattle.script_runs.specs.StepsTaken.{carried}
use Rattle.script_runs.proofs.MachineAnswers.{told_now}
use Rattle.script_runs.proofs.run.machine.ScriptMachine.export.Goals as goal

pub returns-in-Some-Some : goal.returns-in-Some-Some
returns-in-Some-Some g c =
    let name = c.args.name.now in
    let version = repository_in c.deref-version.result.now in
    let (report, found, is_report) = of_what_was_found (report_at version name) c.in-Some-Some.info.now c.in-Some-Some.entries
    c.in-Some-Some.ensures c.in-Some-Some.ensures' in
    IfOk-weaker c.exported_reply_of.result _ _
    (λ text written h taken.
    let now : version ≡ repository h =
    ap repository_in (c.deref-version.ensures ∙ c.current.ensures.version) ∙ (c.as_engine.ensures h taken).kept.version_is.repository_is in
    told_now g.T.TakesSteps.has_taken c.args.self.now h (export_outcome (carried c.args.self.now h) name) (string_bytes text) taken
    (ap ReplyNow (ap (λ d. option_map_or exported_text (report_at d name) (reply_text NoReport)) (sym now)
    ∙ ap (λ o. option_map_or exported_text o (reply_text NoReport)) found ∙ sym written)))
    (c.exported_reply_of.ensures report is_report)
