use Rattle.std.proofs.Common.{◌∙◌}
use Rattle.sorted_pages.proofs.Ranging.{found_first, found_nowhere}
use Rattle.sorted_pages.proofs.paged.Paged.first_in.Goals as goal

pub returns-in-Some : goal.returns-in-Some
returns-in-Some g c =
    c.only_in.ensures
    ∙ found_first g.E.PageEntry.order g.met.E.PageEntry.is_total (g.S.Span.side c.args.span.now) (g.met.S.Span.is_monotone c.args.span.now)
    c.args.self.now c.front_from.result c.next.new.self c.in-Some.first.now c.front_from.ensures.rising c.front_from.ensures.front
    c.in-Some.ensures.steps

pub returns-in-None : goal.returns-in-None
returns-in-None g c =
    found_nowhere g.E.PageEntry.order g.met.E.PageEntry.is_total (g.S.Span.side c.args.span.now) (g.met.S.Span.is_monotone c.args.span.now)
    c.args.self.now c.front_from.result c.front_from.ensures.rising c.front_from.ensures.front c.in-None.ensures.steps.0
