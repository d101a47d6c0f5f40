use Rattle.std.proofs.Common.{◌≡◌, length}
use Rattle.oim_fact.specs.Texts.{names_in, has_equal_neighbours}
use Rattle.oim_fact.specs.Dims.{dims_view}
use Rattle.oim_fact.proofs.dims.has_equal_neighbours.Given as goal

-- it hangs on the dimensions that are left
abbrev pub invariant-loop-left : goal.invariant-loop-left
invariant-loop-left l = has_equal_neighbours (names_in (dims_view l.pairs)) ≡ has_equal_neighbours (names_in (dims_view l.left))

abbrev pub decreases-loop-left : goal.decreases-loop-left
decreases-loop-left l = length l.left
