use Rattle.std.proofs.Common.{string_bytes}
use Rattle.filing_version.specs.StampedReports.{repository_in}
use Rattle.version_differences.proofs.Covered.{IsWrittenTo}
use Rattle.version_differences.proofs.difference.text_of_all.Given as goal

-- the lines so far, and those of the names still to come, each with its identifiers
abbrev pub invariant-loop-entry : goal.invariant-loop-entry
invariant-loop-entry l = IsWrittenTo l.places (repository_in l.from) (repository_in l.to) (string_bytes l.out) l.entry-iterator
