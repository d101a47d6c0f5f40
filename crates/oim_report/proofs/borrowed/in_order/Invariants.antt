use Rattle.std.proofs.Common.{◌≡◌, ◌++◌}
use Rattle.oim_report.proofs.borrowed.in_order.Given as goal

-- what was moved, with what is left
abbrev pub invariant-loop-place : goal.invariant-loop-place
invariant-loop-place l = l.found.items ++ l.place-iterator ≡ l.initial.place-iterator
