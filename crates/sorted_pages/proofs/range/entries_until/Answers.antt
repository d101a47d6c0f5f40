use Rattle.sorted_pages.proofs.Ranging.{leaves_until}
use Rattle.sorted_pages.proofs.range.entries_until.Goals as goal

pub returns : goal.returns
returns g c =
    leaves_until g.E.PageEntry.order g.met.E.PageEntry.is_total (g.S.Span.side c.args.span.now) (g.met.S.Span.is_monotone c.args.span.now)
    c.args.entries.now c.split_at_edge.result.0.now c.split_at_edge.result.1.now c.split_at_edge.ensures.parts c.requires
    c.split_at_edge.ensures.front c.split_at_edge.ensures.back
