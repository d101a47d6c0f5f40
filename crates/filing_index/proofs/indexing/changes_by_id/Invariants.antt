use Rattle.std.proofs.Common.{◌≡◌, take}
use Rattle.filing_index.specs.ChangedIndexes.{id_changes}
use Rattle.filing_index.proofs.indexing.changes_by_id.Given as goal

abbrev pub invariant-loop-fact_change : goal.invariant-loop-fact_change
invariant-loop-fact_change l = l.changes.items ≡ id_changes (take l.fact_change-index l.fact_changes)
