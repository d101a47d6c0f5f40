use Rattle.std.proofs.Common.{◌∙◌, ap, sym, subst}
use Rattle.sorted_pages.specs.Sorted.{IsRising}
use Rattle.sorted_pages.specs.Ranges.{until_span}
use Rattle.sorted_pages.proofs.Stretches.{rising-from, range_is}
use Rattle.sorted_pages.proofs.paged.Paged.range.Goals as goal

pub all_until-requires : goal.all_until-requires
all_until-requires g c =
    subst (IsRising g.E.PageEntry.order) (sym c.front_from.ensures.front)
    (rising-from g.E.PageEntry.order (g.S.Span.side c.args.span.now) (g.met.S.Span.is_monotone c.args.span.now) c.args.self.now c.front_from.ensures.rising)

pub returns-clause-entries : goal.returns-clause-entries
returns-clause-entries g c =
    c.all_until.ensures ∙ ap (until_span (g.S.Span.side c.args.span.now)) c.front_from.ensures.front
    ∙ range_is g.E.PageEntry.order (g.S.Span.side c.args.span.now) (g.met.S.Span.is_monotone c.args.span.now) c.args.self.now c.front_from.ensures.rising
