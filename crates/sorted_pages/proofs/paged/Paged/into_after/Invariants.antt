use Rattle.std.proofs.Common.{◌≡◌, length, map}
use Rattle.sorted_pages.specs.Sorted.{IsRising}
use Rattle.sorted_pages.specs.Changes.{entry_of, with_changes}
use Rattle.sorted_pages.proofs.paged.Paged.into_after.Given as goal

abbrev pub invariant-loop-ahead : goal.invariant-loop-ahead
invariant-loop-ahead g l =
    (with_changes g.E.PageEntry.order l.ahead l.list ≡ with_changes g.E.PageEntry.order l.fn.changes l.fn.self)
    × IsRising g.E.PageEntry.order (map entry_of l.ahead)

abbrev pub decreases-loop-ahead : goal.decreases-loop-ahead
decreases-loop-ahead g l = length l.ahead
