-- Each index after the fact changes is that of the map after them.
use Rattle.std.proofs.Common.{◌≡◌, ◌∙◌, ap, sym, subst, refl, IfOk}
use Rattle.text_map.specs.MapChanges.{map_with_changes}
use Rattle.filing_model.specs.Common.TextMap.{TextMap}
use Rattle.filing_model.specs.Oim.Facts.{Fact}
use Rattle.filing_facts.specs.Hashes.{cell_hash, period_hash, concept_hash}
use Rattle.filing_index.specs.Index.{IsIndex}
use Rattle.filing_facts.specs.FactChanges.{with_changes}
use Rattle.filing_index.specs.ChangedIndexes.{id_changes}
use Rattle.filing_index.proofs.ChangedFacts.{map_after}
use Rattle.filing_index.proofs.KeptOrders.{order_after}
use Rattle.filing_index.proofs.facts.Facts.into_after.Goals as goal

pub returns : goal.returns
returns c = λ changes are.
    let edits = id_changes c.args.fact_changes.now in
    let made : c.in_ok-by_id.by_id ≡ map_with_changes edits c.self.inside.by_id =
    subst (λ r. IfOk r (λ m. m ≡ map_with_changes edits c.self.inside.by_id)) c.in_ok-by_id.ensures.0 c.ids_into_after.ensures in
    sym (ap (λ t. t.0) c.in_ok-by_cell.ensures.1 ∙ ap (λ t. t.0) c.in_ok-by_period.ensures.1 ∙ ap (λ t. t.0) c.in_ok-by_concept.ensures.1)
    ∙ made
    ∙ (λ i. map_with_changes (id_changes (are i)) (c.self.view_is i))
    ∙ map_after changes c.args.self

pub invariant_of-result : goal.invariant_of-result
invariant_of-result c =
    let changes = c.requires.0 in
    let facts = c.args.self in
    let edits = id_changes c.args.fact_changes.now in
    let made : c.in_ok-by_id.by_id ≡ map_with_changes edits c.self.inside.by_id =
    subst (λ r. IfOk r (λ m. m ≡ map_with_changes edits c.self.inside.by_id)) c.in_ok-by_id.ensures.0 c.ids_into_after.ensures in
    let back : with_changes changes.entries facts ≡ c.in_ok-by_concept.by_id =
    sym (made ∙ (λ i. map_with_changes (id_changes (c.requires.1 i)) (c.self.view_is i)) ∙ map_after changes facts)
    ∙ ap (λ t. t.0) c.in_ok-by_cell.ensures.1
    ∙ ap (λ t. t.0) c.in_ok-by_period.ensures.1
    ∙ ap (λ t. t.0) c.in_ok-by_concept.ensures.1 in
    record {
      cell = order_after cell_hash changes facts _ c.args.fact_changes.now c.self.inside.by_cell _ _ _ _
          c.index_into_after.ensures c.in_ok-by_cell.ensures.0 (ap (λ t. t.0) c.in_ok-by_id.ensures.1)
          (ap (λ t. t.1) c.in_ok-by_period.ensures.1 ∙ ap (λ t. t.1) c.in_ok-by_concept.ensures.1) c.requires.1 back
          (subst (λ (m : TextMap Fact). IsIndex cell_hash m c.self.inside.by_cell) c.self.view_is c.self.invariant.cell);
      period = order_after period_hash changes facts _ c.args.fact_changes.now c.self.inside.by_period _ _ _ _
          c.index_into_after-2.ensures c.in_ok-by_period.ensures.0 (ap (λ t. t.1) c.in_ok-by_id.ensures.1 ∙ ap (λ t. t.1) c.in_ok-by_cell.ensures.1)
          (ap (λ t. t.2) c.in_ok-by_concept.ensures.1) c.requires.1 back
          (subst (λ (m : TextMap Fact). IsIndex period_hash m c.self.inside.by_period) c.self.view_is c.self.invariant.period);
      concept = order_after concept_hash changes facts _ c.args.fact_changes.now c.self.inside.by_concept _ _ _ _
          c.index_into_after-3.ensures c.in_ok-by_concept.ensures.0
          (ap (λ t. t.2) c.in_ok-by_id.ensures.1 ∙ ap (λ t. t.2) c.in_ok-by_cell.ensures.1 ∙ ap (λ t. t.2) c.in_ok-by_period.ensures.1)
          refl c.requires.1 back
          (subst (λ (m : TextMap Fact). IsIndex concept_hash m c.self.inside.by_concept) c.self.view_is c.self.invariant.concept);
    }
