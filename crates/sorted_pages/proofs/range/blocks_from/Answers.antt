use Rattle.sorted_pages.proofs.Ranging.{blocks_from_is, first_rises}
use Rattle.sorted_pages.proofs.range.blocks_from.Goals as goal

pub returns-clause-parts : goal.returns-clause-parts
returns-clause-parts g c =
    blocks_from_is g.E.PageEntry.order g.met.E.PageEntry.is_total (g.S.Span.side c.args.span.now) (g.met.S.Span.is_monotone c.args.span.now)
    g.T.Level.entries c.args.blocks.now c.split_at_edge.result.0.now c.split_at_edge.result.1.now
    c.split_first_block.result.1.now c.split_first_block.result.0.now
    c.split_at_edge.ensures.parts c.split_first_block.ensures.first c.requires c.split_at_edge.ensures.front c.split_at_edge.ensures.back

pub returns-clause-rises : goal.returns-clause-rises
returns-clause-rises g c =
    first_rises g.E.PageEntry.order g.met.E.PageEntry.is_total (g.S.Span.side c.args.span.now) (g.met.S.Span.is_monotone c.args.span.now)
    g.T.Level.entries c.args.blocks.now c.split_at_edge.result.0.now c.split_at_edge.result.1.now
    c.split_first_block.result.1.now c.split_first_block.result.0.now
    c.split_at_edge.ensures.parts c.split_first_block.ensures.first c.requires
