use Rattle.std.proofs.Common.{◌≡◌, ◌∙◌, ◌<◌, ◌++◌, sym, refl, arith, length}
use Rattle.sorted_pages.specs.Pages.{of_block}
use Rattle.sorted_pages.proofs.InPlace.{at_err, at_ok, changed_at_place, rises_there, set_again}
use Rattle.sorted_pages.proofs.in_place.ArcBlockInPlace.change.Goals as goal

pub change_block-requires : goal.change_block-requires
change_block-requires g c =
    let before = c.split_at_place.result.0.now in
    let from = c.split_at_place.result.1.now in
    let parts : c.args.items.now.items ≡ before ++ from = sym c.deref.ensures.value ∙ c.split_at_place.ensures.parts in
    let in_items : length before < length c.args.items.now.items = omega (arith, c.in-Some.ensures.variant.0 refl, c.args.items.now.ok.0) in
    rises_there g.E.PageEntry.order g.met.E.PageEntry.is_total (of_block g.T.Level.entries) c.args.items.now.items before from c.in-Some.block.now
    c.requires parts in_items c.in-Some.ensures.value

pub returns-clause-entries : goal.returns-clause-entries
returns-clause-entries g c =
    let before = c.split_at_place.result.0.now in
    let from = c.split_at_place.result.1.now in
    let parts : c.args.items.now.items ≡ before ++ from = sym c.deref.ensures.value ∙ c.split_at_place.ensures.parts in
    let in_items : length before < length c.args.items.now.items = omega (arith, c.in-Some.ensures.variant.0 refl, c.args.items.now.ok.0) in
    changed_at_place g.E.PageEntry.order g.met.E.PageEntry.is_total (of_block g.T.Level.entries) c.args.change.now c.entry.result.now
    c.args.items.now.items before from c.in-Some.block.now c.change_block.new.block c.change_block.result c.entry.ensures parts in_items
    c.in-Some.ensures.value c.split_at_place.ensures.before c.split_at_place.ensures.after c.change_block.ensures.entries

pub returns-clause-same : goal.returns-clause-same
returns-clause-same g c =
    at_ok c.change_block.result (λ made same is_false. set_again c.args.items.now.items (length c.split_at_place.result.0.now) c.in-Some.block.now
    c.change_block.new.block (same is_false) c.in-Some.ensures.value) c.change_block.ensures.same

pub returns-clause-failed : goal.returns-clause-failed
returns-clause-failed g c =
    at_err c.change_block.result (λ same. set_again c.args.items.now.items (length c.split_at_place.result.0.now) c.in-Some.block.now
    c.change_block.new.block same c.in-Some.ensures.value) c.change_block.ensures.failed
