use Rattle.oim_report.proofs.WrittenReports.{report_back}
use Rattle.oim_report.proofs.read_back.reports_are_read_back.Goals as goal

pub returns : goal.returns
returns c = report_back
