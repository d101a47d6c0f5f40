use Rattle.std.proofs.Common.{◌≡◌, ◌∙◌, sym, [], subst, arith, T}
use Rattle.std.specs.FinMap.Entries.{is_sorted}
use Rattle.filing_model.specs.Common.Text.{text_cmp}
use Rattle.filing_model.specs.Reading.JsonText.{pairs}
use Rattle.filing_model.specs.Reading.ReadReport.{entry_of}
use Rattle.oim_report.specs.Borrowed.{members_at}
use Rattle.oim_report.specs.Parts.{fact_view, facts_view}
use Rattle.oim_report.proofs.FactList.{fitted_turn, sorted_facts}
use Rattle.oim_report.proofs.OrderedMembers.{no_places, place_turn, places_read, range_turn}
use Rattle.oim_report.proofs.facts.facts_in_order.Goals as goal

pub loop-id-preserved : goal.loop-id-preserved
loop-id-preserved c = record {
  read =
      place_turn fact_view (entry_of c.args.names.now) _ _ _ _ _ _ _ _ c.in-Some.ensures.steps.0 c.in_ok-push.ensures.items
      c.in_ok-entry_in_text.ensures.entry c.loop-id.invariant.read;
  range = (range_turn _ _ _ _ c.in-Some.ensures.steps.0 c.loop-id.invariant.range).1;
  fitted =
      fitted_turn c.args.names.now _ _ _ c.in_ok-push.ensures.items c.in_ok-entry_in_text.ensures.dims
      c.in_ok-entry_in_text.ensures.fitted c.loop-id.invariant.fitted;
}

pub returns-clause-rise : goal.returns-clause-rise
returns-clause-rise c =
    let same : c.in_ok-places.places.items ≡ c.into_iter-id-iterator.result.rest.items = grind arith in
    let left = c.loop-id.id-iterator.rest in
    let none : left.items ≡ [] = no_places left.items (sym c.in-None.ensures.steps.0 ∙ left.ok.0) in
    sorted_facts c.args.names.now (pairs (members_at c.into_iter-id-iterator.result.rest.items)) (facts_view c.loop-id.facts.items)
    (places_read fact_view (entry_of c.args.names.now) _ _ _ none c.loop-id.invariant.read)
    (subst (λ ps. T (is_sorted text_cmp (pairs (members_at ps)))) same c.in_ok-places.ensures.rise)
