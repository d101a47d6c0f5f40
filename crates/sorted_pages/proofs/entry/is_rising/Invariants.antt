use Rattle.std.proofs.Common.{◌≡◌, length}
use Rattle.std.specs.FinMap.Entries.{is_sorted}
use Rattle.sorted_pages.specs.Sorted.{keyed}
use Rattle.sorted_pages.proofs.entry.is_rising.Given as goal

abbrev pub invariant-loop-entry : goal.invariant-loop-entry
invariant-loop-entry g l = is_sorted g.E.PageEntry.order (keyed l.left) ≡ is_sorted g.E.PageEntry.order (keyed l.fn.entries)

abbrev pub decreases-loop-entry : goal.decreases-loop-entry
decreases-loop-entry g l = length l.left
