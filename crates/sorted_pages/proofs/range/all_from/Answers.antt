use Rattle.std.proofs.Common.{◌∙◌, ap, ◌++◌}
use Rattle.std.specs.List.{flat_map}
use Rattle.sorted_pages.specs.Pages.{singleton, of_page, of_run, of_group, of_section}
use Rattle.sorted_pages.proofs.Ranging.{in_a_row}
use Rattle.sorted_pages.proofs.range.all_from.Goals as goal

pub returns : goal.returns
returns g c =
    c.of.ensures
    ∙ in_a_row (flat_map singleton c.entries_from.result.now) (flat_map of_page c.blocks_from-4.result.1.now) (flat_map of_run c.blocks_from-3.result.1.now)
    (flat_map of_group c.blocks_from-2.result.1.now) (flat_map of_section c.blocks_from.result.1.now) _ _ _ _
    (ap (λ es. es ++ flat_map of_page c.blocks_from-4.result.1.now) c.entries_from.ensures ∙ c.blocks_from-4.ensures.parts)
    c.blocks_from-3.ensures.parts c.blocks_from-2.ensures.parts c.blocks_from.ensures.parts
