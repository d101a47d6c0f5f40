use Rattle.std.proofs.Common.{◌≡◌, length, map}
use Rattle.oim_fact.specs.Texts.{has_equal_neighbours}
use Rattle.report_inspection.proofs.repeats.have_equal_neighbours.Given as goal

-- it hangs on the names that are left
abbrev pub invariant-loop-left : goal.invariant-loop-left
invariant-loop-left l = has_equal_neighbours (map (λ n. n.now) l.names) ≡ has_equal_neighbours (map (λ n. n.now) l.left)

abbrev pub decreases-loop-left : goal.decreases-loop-left
decreases-loop-left l = length l.left
