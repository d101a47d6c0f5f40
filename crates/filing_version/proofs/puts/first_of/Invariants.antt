use Rattle.std.proofs.Common.{◌≡◌}
use Rattle.std.specs.List.{flat_map}
use Rattle.filing_version.specs.Puts.{puts_in}
use Rattle.filing_version.proofs.puts.first_of.Given as goal

abbrev pub invariant-loop-report : goal.invariant-loop-report
invariant-loop-report l = flat_map puts_in l.fn.reports ≡ flat_map puts_in l.reports
