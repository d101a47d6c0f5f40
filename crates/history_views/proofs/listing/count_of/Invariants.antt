use Rattle.std.proofs.Common.{◌≡◌, ◌+◌, length}
use Rattle.history_views.proofs.listing.count_of.Given as goal

-- the facts so far, and those still to come
abbrev pub invariant-loop : goal.invariant-loop
invariant-loop l = l.count + length l.iterator' ≡ length l.fn.entries
