use Rattle.std.proofs.Common.{◌∙◌, sym}
use Rattle.filing_index.proofs.facts.Facts.of_sorted.Goals as goal

pub invariant_of-result : goal.invariant_of-result
invariant_of-result c = record {
  cell = c.in_ok-by_cell.ensures c.in_ok-by_id.by_id (c.in_ok-by_id.ensures ∙ sym c.deref.ensures.value);
  period = c.in_ok-by_period.ensures c.in_ok-by_id.by_id (c.in_ok-by_id.ensures ∙ sym c.deref-2.ensures.value);
  concept = c.in_ok-by_concept.ensures c.in_ok-by_id.by_id (c.in_ok-by_id.ensures ∙ sym c.deref-3.ensures.value);
}
