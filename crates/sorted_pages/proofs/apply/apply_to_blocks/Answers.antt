use Rattle.std.proofs.Common.{◌∙◌}
use Rattle.std.specs.List.{flat_map}
use Rattle.sorted_pages.specs.Pages.{of_block}
use Rattle.sorted_pages.proofs.Flats.{parted}
use Rattle.sorted_pages.proofs.Steps.{level_turn, laid_all, rising_parts, changes_parts}
use Rattle.sorted_pages.proofs.apply.apply_to_blocks.Goals as goal

pub changes_before_all-requires-clause-items : goal.changes_before_all-requires-clause-items
changes_before_all-requires-clause-items g c =
    (rising_parts g.E.PageEntry.order g.met.E.PageEntry.is_total (flat_map (of_block g.T.Level.entries) c.split_at_place.result.0.now)
    (flat_map g.T.Level.entries c.split_first_block.result.0.now)
    (flat_map (of_block g.T.Level.entries) c.split_first_block.result.1.now) (flat_map (of_block g.T.Level.entries) c.loop-change.left.now)
    (parted g.T.Level.entries c.loop-change.left.now c.split_at_place.result.0.now c.split_at_place.result.1.now c.split_first_block.result.1.now
    c.split_first_block.result.0.now c.split_at_place.ensures.parts c.split_first_block.ensures.first)
    c.loop-change.invariant.1).1

pub apply_to_block-requires-clause-items : goal.apply_to_block-requires-clause-items
apply_to_block-requires-clause-items g c =
    (rising_parts g.E.PageEntry.order g.met.E.PageEntry.is_total (flat_map (of_block g.T.Level.entries) c.split_at_place.result.0.now)
    (flat_map g.T.Level.entries c.split_first_block.result.0.now)
    (flat_map (of_block g.T.Level.entries) c.split_first_block.result.1.now) (flat_map (of_block g.T.Level.entries) c.loop-change.left.now)
    (parted g.T.Level.entries c.loop-change.left.now c.split_at_place.result.0.now c.split_at_place.result.1.now c.split_first_block.result.1.now
    c.split_first_block.result.0.now c.split_at_place.ensures.parts c.split_first_block.ensures.first)
    c.loop-change.invariant.1).0

pub apply_to_block-requires-clause-changes : goal.apply_to_block-requires-clause-changes
apply_to_block-requires-clause-changes g c =
    (changes_parts g.E.PageEntry.order g.met.E.PageEntry.is_total c.loop-change.ahead.now c.changes_before_all.result.0.now
    c.changes_before_all.result.1.now c.changes_before_all.ensures.parts c.loop-change.invariant.2).0

pub loop-change-preserved : goal.loop-change-preserved
loop-change-preserved g c =
    level_turn g.E.PageEntry.order g.met.E.PageEntry.is_total c.in-Some.change.now c.in-Some.field-0-1.now c.loop-change.ahead.now
    c.changes_before_all.result.0.now c.changes_before_all.result.1.now c.entry.result.now
    (flat_map (of_block g.T.Level.entries) c.split_at_place.result.0.now) (flat_map g.T.Level.entries c.split_first_block.result.0.now)
    (flat_map (of_block g.T.Level.entries) c.split_first_block.result.1.now) (flat_map (of_block g.T.Level.entries) c.loop-change.left.now)
    (g.U.Grow.all c.loop-change.grown) (g.U.Grow.all c.share_all.new.grown) (g.U.Grow.all c.in_ok-grown.grown) _
    c.entry.ensures c.in-Some.ensures.cases.0 c.changes_before_all.ensures.parts
    (parted g.T.Level.entries c.loop-change.left.now c.split_at_place.result.0.now c.split_at_place.result.1.now c.split_first_block.result.1.now
    c.split_first_block.result.0.now c.split_at_place.ensures.parts c.split_first_block.ensures.first)
    c.loop-change.invariant.1 c.loop-change.invariant.2 c.split_at_place.ensures.before c.changes_before_all.ensures.mine c.changes_before_all.ensures.later
    c.in_ok-share_all.ensures c.in_ok-grown.ensures c.loop-change.invariant.0

pub returns : goal.returns
returns g c =
    c.in_ok-share_all-2.ensures
    ∙ laid_all g.E.PageEntry.order g.met.E.PageEntry.is_total c.loop-change.ahead.now (flat_map (of_block g.T.Level.entries) c.loop-change.left.now)
    (g.U.Grow.all c.loop-change.grown) _ c.in_default.ensures.cases c.loop-change.invariant.0
