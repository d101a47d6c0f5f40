use Rattle.std.proofs.Common.{◌≡◌, take}
use Rattle.filing_index.specs.IndexKinds.{hash_in}
use Rattle.filing_index.specs.ChangedIndexes.{hashed_changes}
use Rattle.filing_index.proofs.indexing.hashed_changes.Given as goal

abbrev pub invariant-loop-fact_change : goal.invariant-loop-fact_change
invariant-loop-fact_change l = l.changes.items ≡ hashed_changes (hash_in l.kind) (take l.fact_change-index l.fact_changes)
