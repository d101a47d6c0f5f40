use Rattle.std.proofs.Common.{◌≡◌, map, take}
use Rattle.filing_index.specs.IndexKinds.{hash_in}
use Rattle.filing_index.specs.ChangedIndexes.{hashed}
use Rattle.filing_index.proofs.indexing.index_entries.Given as goal

abbrev pub invariant-loop-held : goal.invariant-loop-held
invariant-loop-held l = l.entries.items ≡ map (hashed (hash_in l.kind)) (take l.held-index l.facts)
