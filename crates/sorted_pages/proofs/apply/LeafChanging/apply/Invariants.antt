use Rattle.std.proofs.Common.{◌≡◌, ◌++◌, length, map}
use Rattle.sorted_pages.specs.Sorted.{IsRising}
use Rattle.sorted_pages.specs.Changes.{entry_of, with_changes}
use Rattle.sorted_pages.proofs.apply.LeafChanging.apply.Given as goal

abbrev pub invariant-loop-change : goal.invariant-loop-change
invariant-loop-change g l =
    (g.U.Grow.all l.grown ++ with_changes g.E.PageEntry.order l.ahead l.left
    ≡ g.U.Grow.all l.fn.grown ++ with_changes g.E.PageEntry.order l.fn.changes l.fn.items)
    × IsRising g.E.PageEntry.order l.left × IsRising g.E.PageEntry.order (map entry_of l.ahead)

abbrev pub decreases-loop-change : goal.decreases-loop-change
decreases-loop-change g l = length l.ahead
