use Rattle.std.proofs.Common.{◌≡◌, length, map}
use Rattle.std.specs.FinMap.Entries.{is_sorted}
use Rattle.sorted_pages.specs.Sorted.{keyed}
use Rattle.sorted_pages.specs.Changes.{entry_of}
use Rattle.sorted_pages.proofs.entry.are_rising.Given as goal

abbrev pub invariant-loop-change : goal.invariant-loop-change
invariant-loop-change g l = is_sorted g.E.PageEntry.order (keyed (map entry_of l.left)) ≡ is_sorted g.E.PageEntry.order (keyed (map entry_of l.fn.changes))

abbrev pub decreases-loop-change : goal.decreases-loop-change
decreases-loop-change g l = length l.left
