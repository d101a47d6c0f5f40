use Rattle.std.proofs.Common.{◌∙◌, ap, sym, subst, refl, cond}
use Rattle.sorted_pages.specs.Sorted.{IsRising}
use Rattle.sorted_pages.specs.Changes.{with_change}
use Rattle.sorted_pages.proofs.Flats.{singles}
use Rattle.sorted_pages.proofs.InPlace.{at_ok, changed_at}
use Rattle.sorted_pages.proofs.in_place.LeafInPlace.change.Goals as goal

pub returns-clause-entries : goal.returns-clause-entries
returns-clause-entries g c =
    at_ok c.change_at.result (λ made e. singles c.change_at.new.entries.items
    ∙ changed_at g.E.PageEntry.order g.met.E.PageEntry.is_total c.args.change.now c.entry-entry.result.now c.args.items.now.items
    c.split_at_edge.result.0.now c.split_at_edge.result.1.now c.change_at.new.entries.items _ _ made
    c.entry-entry.ensures (sym c.deref.ensures.value ∙ c.split_at_edge.ensures.parts)
    (subst (IsRising g.E.PageEntry.order) (singles c.args.items.now.items) c.requires)
    c.split_at_edge.ensures.front c.split_at_edge.ensures.back refl c.is_tied-ties.ensures e
    ∙ ap (λ es. cond made (with_change g.E.PageEntry.order c.args.change.now es) es) (sym (singles c.args.items.now.items)))
    c.change_at.ensures.entries
