use Rattle.std.proofs.Common.{◌≡◌, ◌∙◌, ◌++◌, ap, sym, subst}
use Rattle.std.specs.List.{flat_map}
use Rattle.sorted_pages.specs.Pages.{of_section}
use Rattle.sorted_pages.specs.Sorted.{IsRising}
use Rattle.sorted_pages.specs.Changes.{with_changes}
use Rattle.sorted_pages.proofs.Parts.{rising-with_changes}
use Rattle.sorted_pages.proofs.paged.long_after.Goals as goal

pub of_sections-requires : goal.of_sections-requires
of_sections-requires g c =
    let laid : flat_map of_section c.in_ok-sections.sections.items
    ≡ with_changes g.E.PageEntry.order c.args.changes.now (flat_map of_section c.args.sections.now) =
    c.in_ok-sections.ensures
    ∙ ap (λ es. flat_map of_section es ++ with_changes g.E.PageEntry.order c.args.changes.now (flat_map of_section c.args.sections.now))
    c.in_ok-grown.ensures.items in
    subst (IsRising g.E.PageEntry.order) (sym laid)
    (rising-with_changes g.E.PageEntry.order g.met.E.PageEntry.is_total c.args.changes.now (flat_map of_section c.args.sections.now) c.requires.entries)
