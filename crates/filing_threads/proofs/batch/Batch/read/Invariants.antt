use Rattle.std.proofs.Common.{◌≡◌, false}
use Rattle.std.specs.Arc.{arc_value}
use Rattle.filing_threads.specs.Batches.{AreBatch}
use Rattle.filing_threads.proofs.batch.Batch.read.Given as goal

-- the lines before the rest are classified
abbrev pub invariant-loop : goal.invariant-loop
invariant-loop l = AreBatch l.journaled (arc_value l.table) l.text l.rest l.batch × (l.batch.ends_deep ≡ false)
