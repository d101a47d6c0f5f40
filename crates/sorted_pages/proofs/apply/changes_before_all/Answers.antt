use Rattle.std.proofs.Common.{◌≡◌, ◌∙◌, ap, ◌∷◌, ◌++◌, map, drop}
use Rattle.std.specs.List.{flat_map}
use Rattle.sorted_pages.specs.Changes.{entry_of}
use Rattle.sorted_pages.proofs.Steps.{first_is, none_is, mine_below, none_below, later_passes}
use Rattle.sorted_pages.proofs.apply.changes_before_all.Goals as goal

pub returns-in-Some-clause-mine : goal.returns-in-Some-clause-mine
returns-in-Some-clause-mine g c =
    let head : c.args.items.now ≡ c.in-Some.item.now ∷ drop 1 c.args.items.now = first_is c.args.items.now c.in-Some.item.now c.in-Some.ensures.value in
    mine_below g.E.PageEntry.order g.met.E.PageEntry.is_total (map entry_of c.changes_before.result.0.now) (flat_map g.T.Level.entries c.args.items.now)
    (c.changes_before.ensures.place.1.0 ++ flat_map g.T.Level.entries (drop 1 c.args.items.now)) c.changes_before.ensures.place.0
    (ap (flat_map g.T.Level.entries) head ∙ ap (λ es. es ++ flat_map g.T.Level.entries (drop 1 c.args.items.now)) c.changes_before.ensures.place.1.1)
    c.requires.items c.changes_before.ensures.place.2

pub returns-in-Some-clause-later : goal.returns-in-Some-clause-later
returns-in-Some-clause-later g c =
    let head : c.args.items.now ≡ c.in-Some.item.now ∷ drop 1 c.args.items.now = first_is c.args.items.now c.in-Some.item.now c.in-Some.ensures.value in
    later_passes g.E.PageEntry.order g.met.E.PageEntry.is_total c.args.changes.now c.changes_before.result.0.now c.changes_before.result.1.now
    (flat_map g.T.Level.entries c.args.items.now)
    (c.changes_before.ensures.place.1.0 ++ flat_map g.T.Level.entries (drop 1 c.args.items.now)) c.changes_before.ensures.place.0
    (ap (flat_map g.T.Level.entries) head ∙ ap (λ es. es ++ flat_map g.T.Level.entries (drop 1 c.args.items.now)) c.changes_before.ensures.place.1.1)
    c.changes_before.ensures.parts c.requires.changes c.changes_before.ensures.place.3

pub returns-in-None-clause-mine : goal.returns-in-None-clause-mine
returns-in-None-clause-mine g c =
    none_below g.E.PageEntry.order g.met.E.PageEntry.is_total (map entry_of c.split_at.result.0.now) (flat_map g.T.Level.entries c.args.items.now)
    (ap (flat_map g.T.Level.entries) (none_is c.args.items.now c.in-None.ensures.value))
