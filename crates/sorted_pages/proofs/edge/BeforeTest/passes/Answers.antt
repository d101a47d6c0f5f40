use Rattle.std.proofs.Common.{◌∙◌, ap, not, is_lt}
use Rattle.sorted_pages.proofs.Edges.{answers, answered_at_last}
use Rattle.sorted_pages.proofs.edge.BeforeTest.passes.Goals as goal

pub returns : goal.returns
returns g c =
    answered_at_last c.is_lt.result (λ e. is_lt (g.S.Span.side c.args.self.now.0.now e)) (λ e. not (is_lt (g.S.Span.side c.args.self.now.0.now e)))
    (g.T.Level.entries c.args.item.now) c.side_of_last.ensures.1.0 c.side_of_last.ensures.0 c.side_of_last.ensures.1.1
    (answers _ _ (c.is_lt.ensures ∙ ap is_lt c.side_of_last.ensures.2))
