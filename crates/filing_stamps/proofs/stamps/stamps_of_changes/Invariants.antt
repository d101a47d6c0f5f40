use Rattle.std.proofs.Common.{◌≡◌, take}
use Rattle.filing_stamps.specs.Stamps.{stamps_of_changes}
use Rattle.filing_stamps.proofs.stamps.stamps_of_changes.Given as goal

abbrev pub invariant-loop-fact_change : goal.invariant-loop-fact_change
invariant-loop-fact_change l = l.stamps.items ≡ stamps_of_changes l.number (take l.fact_change-index l.fact_changes)
