use Rattle.std.proofs.Common.{◌+◌}
use Rattle.filing_version.specs.StampedReports.{mapped, stamped_report_of}
use Rattle.filing_version.proofs.StampedReports.{LaysTheRest}
use Rattle.filing_version.proofs.version.RepoVersion.after.Given as goal

abbrev pub invariant-loop-part : goal.invariant-loop-part
invariant-loop-part l =
    LaysTheRest (l.self.number + 1) l.change.entries (mapped stamped_report_of l.self.reports) l.part-iterator (mapped stamped_report_of l.reports)
