use Rattle.std.proofs.Common.{◌∙◌, ap, ◌++◌}
use Rattle.std.specs.List.{flat_map}
use Rattle.sorted_pages.specs.Pages.{singleton, of_page, of_run, of_group, of_section}
use Rattle.sorted_pages.proofs.Edges.{answered, refused}
use Rattle.sorted_pages.proofs.Ranging.{each_rises, until_in_sections, until_in_groups, until_before_groups}
use Rattle.sorted_pages.proofs.range.all_until.Goals as goal

pub blocks_until-requires : goal.blocks_until-requires
blocks_until-requires g c =
    (each_rises g.E.PageEntry.order g.met.E.PageEntry.is_total (g.S.Span.side c.args.span.now) (g.met.S.Span.is_monotone c.args.span.now)
    (flat_map singleton c.front.inside.entries.now) (flat_map of_page c.pages.inside.pages.now) (flat_map of_run c.pages.inside.runs.now)
    (flat_map of_group c.pages.inside.groups.now) (flat_map of_section c.pages.inside.sections.now) c.args.front
    (ap (λ es. flat_map singleton c.front.inside.entries.now ++ es) c.pages.view_is ∙ c.front.view_is) c.requires).2

pub groups_until-requires-then-reaches-2 : goal.groups_until-requires-then-reaches-2
groups_until-requires-then-reaches-2 g c =
    (each_rises g.E.PageEntry.order g.met.E.PageEntry.is_total (g.S.Span.side c.args.span.now) (g.met.S.Span.is_monotone c.args.span.now)
    (flat_map singleton c.front.inside.entries.now) (flat_map of_page c.pages.inside.pages.now) (flat_map of_run c.pages.inside.runs.now)
    (flat_map of_group c.pages.inside.groups.now) (flat_map of_section c.pages.inside.sections.now) c.args.front
    (ap (λ es. flat_map singleton c.front.inside.entries.now ++ es) c.pages.view_is ∙ c.front.view_is) c.requires).1

pub until_in_runs-requires : goal.until_in_runs-requires
until_in_runs-requires g c =
    (each_rises g.E.PageEntry.order g.met.E.PageEntry.is_total (g.S.Span.side c.args.span.now) (g.met.S.Span.is_monotone c.args.span.now)
    (flat_map singleton c.front.inside.entries.now) (flat_map of_page c.pages.inside.pages.now) (flat_map of_run c.pages.inside.runs.now)
    (flat_map of_group c.pages.inside.groups.now) (flat_map of_section c.pages.inside.sections.now) c.args.front
    (ap (λ es. flat_map singleton c.front.inside.entries.now ++ es) c.pages.view_is ∙ c.front.view_is) c.requires).0

pub returns-then-reaches : goal.returns-then-reaches
returns-then-reaches g c =
    (λ i. c.of.ensures i ++ c.groups_until.ensures i)
    ∙ until_in_sections g.E.PageEntry.order g.met.E.PageEntry.is_total (g.S.Span.side c.args.span.now) (g.met.S.Span.is_monotone c.args.span.now)
    (flat_map singleton c.front.inside.entries.now) (flat_map of_page c.pages.inside.pages.now) (flat_map of_run c.pages.inside.runs.now)
    (flat_map of_group c.pages.inside.groups.now) (flat_map of_section c.pages.inside.sections.now) c.args.front
    (ap (λ es. flat_map singleton c.front.inside.entries.now ++ es) c.pages.view_is ∙ c.front.view_is) c.requires
    (flat_map of_section c.blocks_until.result.0.now) _ (answered _ _ _ c.reaches.ensures c.if-reaches.true) c.blocks_until.ensures.parts

pub returns-then-reaches-2 : goal.returns-then-reaches-2
returns-then-reaches-2 g c =
    (λ i. c.of-then-reaches-2.ensures i ++ c.groups_until-then-reaches-2.ensures i)
    ∙ until_in_groups g.E.PageEntry.order g.met.E.PageEntry.is_total (g.S.Span.side c.args.span.now) (g.met.S.Span.is_monotone c.args.span.now)
    (flat_map singleton c.front.inside.entries.now) (flat_map of_page c.pages.inside.pages.now) (flat_map of_run c.pages.inside.runs.now)
    (flat_map of_group c.pages.inside.groups.now) (flat_map of_section c.pages.inside.sections.now) c.args.front
    (ap (λ es. flat_map singleton c.front.inside.entries.now ++ es) c.pages.view_is ∙ c.front.view_is) c.requires
    (refused _ _ _ c.reaches.ensures c.if-reaches.false) (answered _ _ _ c.reaches-2.ensures c.if-reaches-2.true)

pub returns : goal.returns
returns g c =
    c.until_in_runs.ensures
    ∙ until_before_groups g.E.PageEntry.order g.met.E.PageEntry.is_total (g.S.Span.side c.args.span.now) (g.met.S.Span.is_monotone c.args.span.now)
    (flat_map singleton c.front.inside.entries.now) (flat_map of_page c.pages.inside.pages.now) (flat_map of_run c.pages.inside.runs.now)
    (flat_map of_group c.pages.inside.groups.now) (flat_map of_section c.pages.inside.sections.now) c.args.front
    (ap (λ es. flat_map singleton c.front.inside.entries.now ++ es) c.pages.view_is ∙ c.front.view_is) c.requires
    (refused _ _ _ c.reaches.ensures c.if-reaches.false) (refused _ _ _ c.reaches-2.ensures c.if-reaches-2.false)
