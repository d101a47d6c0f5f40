use Rattle.std.proofs.Common.{sym, subst}
use Rattle.std.specs.Prelude.{◌≤◌}
use Rattle.filing_stamps.specs.Stamps.{stamp_in}
use Rattle.filing_version.specs.StampedReports.{StampedReportValue}
use Rattle.filing_version.proofs.stamped_report.StampedReport.stamps_again.Goals as goal

pub after-requires : goal.after-requires
after-requires c = λ part. subst (λ (f : StampedReportValue). stamp_in f.stamps part ≤ c.args.number) (sym c.self.view_is) (c.requires part)
