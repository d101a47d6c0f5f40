use Rattle.std.proofs.Common.{◌-◌, ◌≤◌, T, take, drop, length}
use Rattle.sorted_pages.specs.Edges.{ends_with, begins_with}
use Rattle.sorted_pages.proofs.edge.split_at_edge.Given as goal

abbrev pub invariant-loop-high : goal.invariant-loop-high
invariant-loop-high g l =
    (l.low ≤ l.high) × (l.high ≤ length l.items) × T (ends_with (g.P.Test.passes l.test) (take l.low l.items))
    × T (begins_with (g.P.Test.fails l.test) (drop l.high l.items))

abbrev pub decreases-loop-high : goal.decreases-loop-high
decreases-loop-high g l = l.high - l.low
