use Rattle.std.proofs.Common.{◌≡◌, ◌++◌}
use Rattle.sorted_pages.proofs.apply.LeafChanging.fill.Given as goal

abbrev pub invariant-loop-entry : goal.invariant-loop-entry
invariant-loop-entry g l = g.U.Grow.all l.grown ≡ g.U.Grow.all l.fn.grown ++ l.yielded
