use Rattle.std.proofs.Common.{subst, not}
use Rattle.std.specs.List.{flat_map}
use Rattle.std.specs.Ordering.{is_gt}
use Rattle.sorted_pages.specs.Sorted.{IsRising}
use Rattle.sorted_pages.specs.Edges.{first_passes}
use Rattle.sorted_pages.proofs.InPlace.{after_place}
use Rattle.sorted_pages.proofs.Steps.{placed}
use Rattle.sorted_pages.proofs.apply.split_at_place.Goals as goal

pub returns-clause-before : goal.returns-clause-before
returns-clause-before g c =
    placed g.E.PageEntry.order g.met.E.PageEntry.is_total g.T.Level.entries c.args.entry.now
    (λ item. first_passes (λ e. not (is_gt (g.E.PageEntry.order e c.args.entry.now))) (g.T.Level.entries item))
    (λ item. first_passes (λ e. is_gt (g.E.PageEntry.order e c.args.entry.now)) (g.T.Level.entries item)) (λ item h. h)
    c.split_before_edge.result.0.now c.split_before_edge.result.1.now
    (subst (λ items. IsRising g.E.PageEntry.order (flat_map g.T.Level.entries items)) c.split_before_edge.ensures.parts c.requires)
    c.split_before_edge.ensures.edge

pub returns-clause-after : goal.returns-clause-after
returns-clause-after g c =
    after_place g.E.PageEntry.order g.met.E.PageEntry.is_total g.T.Level.entries c.args.entry.now
    (λ item. first_passes (λ e. not (is_gt (g.E.PageEntry.order e c.args.entry.now))) (g.T.Level.entries item))
    c.split_before_edge.result.0.now c.split_before_edge.result.1.now
    (subst (λ items. IsRising g.E.PageEntry.order (flat_map g.T.Level.entries items)) c.split_before_edge.ensures.parts c.requires)
    c.split_before_edge.ensures.edge
