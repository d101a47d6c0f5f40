use Rattle.sorted_pages.proofs.Edges.{edge_split}
use Rattle.sorted_pages.proofs.edge.split_before_edge.Goals as goal

pub returns-clause-edge : goal.returns-clause-edge
returns-clause-edge g c =
    edge_split (g.P.Test.passes c.args.test.now) (g.P.Test.fails c.args.test.now) c.split_at_edge.result.0.now c.split_at_edge.result.1.now
    c.args.items.now c.split_at.result.0.now c.split_at.result.1.now c.saturating_sub.result
    c.split_at_edge.ensures.parts c.saturating_sub.ensures c.split_at.ensures.front c.split_at.ensures.back c.split_at_edge.ensures.front
    c.split_at_edge.ensures.back
