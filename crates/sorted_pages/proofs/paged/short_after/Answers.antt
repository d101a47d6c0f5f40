use Rattle.std.proofs.Common.{◌≡◌, ◌∙◌, ◌++◌, ap, sym, subst}
use Rattle.std.proofs.lemmas.Result.{IfOk-weaker}
use Rattle.std.specs.List.{flat_map}
use Rattle.sorted_pages.specs.Pages.{singleton}
use Rattle.sorted_pages.specs.Sorted.{IsRising}
use Rattle.sorted_pages.specs.Changes.{with_changes}
use Rattle.sorted_pages.proofs.Flats.{singles}
use Rattle.sorted_pages.proofs.Parts.{rising-with_changes}
use Rattle.sorted_pages.proofs.paged.short_after.Goals as goal

pub of_entries-requires-clause-rises : goal.of_entries-requires-clause-rises
of_entries-requires-clause-rises g c =
    let laid : flat_map singleton c.in_ok-entries.entries.items ≡ with_changes g.E.PageEntry.order c.args.changes.now (flat_map singleton c.args.entries.now) =
    c.in_ok-entries.ensures
    ∙ ap (λ es. flat_map singleton es ++ with_changes g.E.PageEntry.order c.args.changes.now (flat_map singleton c.args.entries.now))
    c.in_ok-room.ensures.items in
    subst (IsRising g.E.PageEntry.order) (sym laid)
    (rising-with_changes g.E.PageEntry.order g.met.E.PageEntry.is_total c.args.changes.now (flat_map singleton c.args.entries.now) c.requires.entries)

pub long_of_sorted-requires : goal.long_of_sorted-requires
long_of_sorted-requires g c =
    let moved : c.in_ok-entries-2.entries.items ≡ with_changes g.E.PageEntry.order c.args.changes.now (flat_map singleton c.args.entries.now) =
    c.in_ok-entries-2.ensures ∙ sym (singles c.in_ok-entries.entries.items) ∙ c.in_ok-entries.ensures
    ∙ ap (λ es. flat_map singleton es ++ with_changes g.E.PageEntry.order c.args.changes.now (flat_map singleton c.args.entries.now))
    c.in_ok-room.ensures.items in
    subst (IsRising g.E.PageEntry.order) (sym moved)
    (rising-with_changes g.E.PageEntry.order g.met.E.PageEntry.is_total c.args.changes.now (flat_map singleton c.args.entries.now) c.requires.entries)

pub returns-in_ok-entries-2 : goal.returns-in_ok-entries-2
returns-in_ok-entries-2 g c =
    let moved : c.in_ok-entries-2.entries.items ≡ with_changes g.E.PageEntry.order c.args.changes.now (flat_map singleton c.args.entries.now) =
    c.in_ok-entries-2.ensures ∙ sym (singles c.in_ok-entries.entries.items) ∙ c.in_ok-entries.ensures
    ∙ ap (λ es. flat_map singleton es ++ with_changes g.E.PageEntry.order c.args.changes.now (flat_map singleton c.args.entries.now))
    c.in_ok-room.ensures.items in
    IfOk-weaker c.long_of_sorted.result _ _ (λ p is. is ∙ moved) c.long_of_sorted.ensures
