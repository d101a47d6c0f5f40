use Rattle.std.proofs.Common.{◌≡◌, length}
use Rattle.oim_fact.specs.Texts.{rows_view, has_equal_neighbours}
use Rattle.oim_fact.specs.Names.{column}
use Rattle.oim_fact.proofs.names.Column.has_equal_neighbours.Given as goal

-- it hangs on the rows that are left
abbrev pub invariant-loop-left : goal.invariant-loop-left
invariant-loop-left l = has_equal_neighbours (column l.self (rows_view l.rows)) ≡ has_equal_neighbours (column l.self (rows_view l.left))

abbrev pub decreases-loop-left : goal.decreases-loop-left
decreases-loop-left l = length l.left
