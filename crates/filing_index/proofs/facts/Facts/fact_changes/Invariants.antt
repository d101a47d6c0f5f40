use Rattle.std.proofs.Common.{◌≡◌, ◌++◌}
use Rattle.filing_index.specs.ChangedIndexes.{fact_changes_in}
use Rattle.filing_index.proofs.facts.Facts.fact_changes.Given as goal

-- the fact changes so far, and those still to come
abbrev pub invariant-loop-change : goal.invariant-loop-change
invariant-loop-change l = l.fact_changes.items ++ fact_changes_in l.change-iterator l.self ≡ fact_changes_in l.changes.entries l.self
