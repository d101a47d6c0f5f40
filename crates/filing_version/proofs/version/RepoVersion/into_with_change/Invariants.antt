use Rattle.filing_version.specs.StampedReports.{version_in}
use Rattle.filing_version.proofs.LaidInTurn.{LaysTheOthers}
use Rattle.filing_version.proofs.version.RepoVersion.into_with_change.Given as goal

abbrev pub invariant-loop-part : goal.invariant-loop-part
invariant-loop-part l = LaysTheOthers (version_in l.fn.self) l.change.entries l.part-iterator (version_in l.version)
