use Rattle.std.proofs.Common.{◌-◌, ◌≤◌, T, take}
use Rattle.sorted_pages.specs.Edges.{ends_with}
use Rattle.sorted_pages.proofs.edge.edge_between.Given as goal

abbrev pub invariant-loop-place : goal.invariant-loop-place
invariant-loop-place g l = (l.place ≤ l.until) × T (ends_with (g.P.Test.passes l.test) (take l.place l.items))

abbrev pub decreases-loop-place : goal.decreases-loop-place
decreases-loop-place g l = l.until - l.place
