use Rattle.std.proofs.Common.{◌≡◌}
use Rattle.sorted_pages.proofs.paged.move_out.Given as goal

abbrev pub invariant-loop-place : goal.invariant-loop-place
invariant-loop-place g l = l.entries.items ≡ l.yielded
