use Rattle.std.proofs.Common.{◌∙◌, ap, [], ◌++◌}
use Rattle.std.specs.List.{flat_map}
use Rattle.sorted_pages.specs.Pages.{singleton, of_page, of_run}
use Rattle.sorted_pages.proofs.Edges.{answered, refused}
use Rattle.sorted_pages.proofs.Orders.{rising_left, rising_right}
use Rattle.sorted_pages.proofs.Ranging.{until_in_runs, until_in_pages, until_in_entries}
use Rattle.sorted_pages.proofs.range.until_in_runs.Goals as goal

pub runs_until-requires : goal.runs_until-requires
runs_until-requires g c =
    rising_right g.E.PageEntry.order (flat_map of_page c.args.pages.now) (flat_map of_run c.args.runs.now)
    (rising_right g.E.PageEntry.order (flat_map singleton c.args.entries.now) _ c.requires)

pub pages_until-requires : goal.pages_until-requires
pages_until-requires g c =
    rising_left g.E.PageEntry.order (flat_map of_page c.args.pages.now) (flat_map of_run c.args.runs.now)
    (rising_right g.E.PageEntry.order (flat_map singleton c.args.entries.now) _ c.requires)

pub entries_until-requires : goal.entries_until-requires
entries_until-requires g c = rising_left g.E.PageEntry.order (flat_map singleton c.args.entries.now) _ c.requires

pub returns-then-reaches : goal.returns-then-reaches
returns-then-reaches g c =
    (λ i. c.of.ensures i ++ c.runs_until.ensures i)
    ∙ until_in_runs g.E.PageEntry.order g.met.E.PageEntry.is_total (g.S.Span.side c.args.span.now) (g.met.S.Span.is_monotone c.args.span.now)
    (flat_map singleton c.args.entries.now) (flat_map of_page c.args.pages.now) (flat_map of_run c.args.runs.now) c.requires
    (answered _ _ _ c.reaches.ensures c.if-reaches.true)

pub returns-then-reaches-2 : goal.returns-then-reaches-2
returns-then-reaches-2 g c =
    (λ i. c.of-then-reaches-2.ensures i ++ c.pages_until.ensures i)
    ∙ until_in_pages g.E.PageEntry.order g.met.E.PageEntry.is_total (g.S.Span.side c.args.span.now) (g.met.S.Span.is_monotone c.args.span.now)
    (flat_map singleton c.args.entries.now) (flat_map of_page c.args.pages.now) (flat_map of_run c.args.runs.now) c.requires
    (refused _ _ _ c.reaches.ensures c.if-reaches.false) (answered _ _ _ c.reaches-2.ensures c.if-reaches-2.true)

pub returns : goal.returns
returns g c =
    (λ i. (c.of-2.ensures ∙ ap (λ es. es ++ []) c.entries_until.ensures) i ++ c.of-3.ensures i)
    ∙ until_in_entries g.E.PageEntry.order g.met.E.PageEntry.is_total (g.S.Span.side c.args.span.now) (g.met.S.Span.is_monotone c.args.span.now)
    (flat_map singleton c.args.entries.now) (flat_map of_page c.args.pages.now) (flat_map of_run c.args.runs.now)
    (refused _ _ _ c.reaches.ensures c.if-reaches.false) (refused _ _ _ c.reaches-2.ensures c.if-reaches-2.false)
