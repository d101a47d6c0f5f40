use Rattle.std.proofs.Common.{◌∙◌, ap, sym, Some, option_map}
use Rattle.filing_model.specs.Sessions.Repository.{report_at}
use Rattle.script_format.specs.ReplyText.{exported_text}
use Rattle.filing_version.specs.StampedReports.{repository_in}
use Rattle.oim_report.proofs.GivenEntries.{of_what_was_found}
use Rattle.history_views.proofs.report.export_report.Goals as goal

pub returns-in_ok-exported_reply_of-in-Some-Some : goal.returns-in_ok-exported_reply_of-in-Some-Some
returns-in_ok-exported_reply_of-in-Some-Some c =
    let (report, found, is_report) = of_what_was_found (report_at (repository_in c.args.version.now) c.args.name.now)
    c.in-Some-Some.info.now c.in-Some-Some.entries c.in-Some-Some.ensures c.in-Some-Some.ensures' in
    ap Some (c.in_ok-exported_reply_of-in-Some-Some.ensures report is_report) ∙ sym (ap (option_map exported_text) found)
