-- The stable sort by dimension sets keeps each cell as it was.
use Rattle.std.proofs.Common.{rules}
use Rattle.std.proofs.lemmas.Fn.{always_returns_same}
use Rattle.report_inspection.proofs.OrderedFacts.{in_order, is_before, is_before-ranks}
use Rattle.report_inspection.proofs.cells.sort_by_dims.Goals as goal

pub returns : goal.returns
returns c =
    in_order c.args.facts.items c.sort_by.new.self.items
    (c.in_ok-sort_by.ensures.sorted is_before is_before-ranks (always_returns_same _ _ _ (λ a r f' k. search rules)))
    (c.sort_by.ensures.stable is_before is_before-ranks (always_returns_same _ _ _ (λ a r f' k. search rules)))
