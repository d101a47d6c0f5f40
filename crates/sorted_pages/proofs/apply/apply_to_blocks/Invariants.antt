use Rattle.std.proofs.Common.{◌≡◌, ◌++◌, ◌+◌, length, map}
use Rattle.std.specs.List.{flat_map}
use Rattle.sorted_pages.specs.Pages.{of_block}
use Rattle.sorted_pages.specs.Sorted.{IsRising}
use Rattle.sorted_pages.specs.Changes.{entry_of, with_changes}
use Rattle.sorted_pages.proofs.apply.apply_to_blocks.Given as goal

abbrev pub invariant-loop-change : goal.invariant-loop-change
invariant-loop-change g l =
    (g.U.Grow.all l.grown ++ with_changes g.E.PageEntry.order l.ahead (flat_map (of_block g.T.Level.entries) l.left)
    ≡ g.U.Grow.all l.fn.grown ++ with_changes g.E.PageEntry.order l.fn.changes (flat_map (of_block g.T.Level.entries) l.fn.blocks))
    × IsRising g.E.PageEntry.order (flat_map (of_block g.T.Level.entries) l.left) × IsRising g.E.PageEntry.order (map entry_of l.ahead)

abbrev pub decreases-loop-change : goal.decreases-loop-change
decreases-loop-change g l = length l.left + length l.ahead
