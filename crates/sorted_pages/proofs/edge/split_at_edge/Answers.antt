use Rattle.std.proofs.Common.{◌+◌, ◌-◌, ◌/◌, arith}
use Rattle.sorted_pages.proofs.Edges.{answered, passed_more}
use Rattle.sorted_pages.proofs.edge.split_at_edge.Goals as goal

pub loop-high-preserved-then-passes : goal.loop-high-preserved-then-passes
loop-high-preserved-then-passes g c = (
  omega arith,
  omega arith,
  passed_more (g.P.Test.passes c.args.test.now) c.args.items.now (c.loop-high.low + (c.loop-high.high - c.loop-high.low) / 2)
      c.index-items-middle.result (omega arith) c.index-items-middle.is (answered _ _ _ c.passes.ensures c.if-passes.true),
  c.loop-high.invariant.3,
)
