use Rattle.std.proofs.Common.{arith}
use Rattle.sorted_pages.proofs.Edges.{answered, passed_more}
use Rattle.sorted_pages.proofs.edge.edge_between.Goals as goal

pub loop-place-preserved : goal.loop-place-preserved
loop-place-preserved g c = (
  omega arith,
  passed_more (g.P.Test.passes c.args.test.now) c.args.items.now c.loop-place.place c.index-items-place.result (omega arith)
      c.index-items-place.is (answered _ _ _ c.passes.ensures c.if-not-passes.false),
)
