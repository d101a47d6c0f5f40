use Rattle.std.proofs.Common.{◌≡◌, sym, subst, true}
use Rattle.filing_model.specs.Reading.JsonText.{pairs}
use Rattle.oim_report.specs.Borrowed.{are_in_range, members_at}
use Rattle.report_inspection.specs.Found.{TakesEach, places_behind}
use Rattle.report_inspection.proofs.TakenFacts.{taking_begins, taking_ends, taking_steps}
use Rattle.report_inspection.proofs.facts.take_members.Goals as goal

pub loop-id-init : goal.loop-id-init
loop-id-init c =
    let all : c.into_iter-id-iterator.result ≡ c.args.kept.now.entries = c.into_iter-id-iterator.ensures.into_iter_gives.0 in
    taking_begins _ _ _ (subst (λ ps. are_in_range (places_behind ps) ≡ true) (sym all) c.requires)

pub loop-id-preserved : goal.loop-id-preserved
loop-id-preserved c = taking_steps _ _ _ _ c.in-Some.id.now c.in-Some.value.now _ _ _ c.loop-id.invariant c.in-Some.ensures.steps c.in_ok-take.ensures

pub returns : goal.returns
returns c =
    let all : c.into_iter-id-iterator.result ≡ c.args.kept.now.entries = c.into_iter-id-iterator.ensures.into_iter_gives.0 in
    subst (λ ps. TakesEach c.args.names.now (pairs (members_at (places_behind ps))) c.args.found.now c.loop-id.found) all
    (taking_ends _ _ _ _ _ c.loop-id.invariant c.in-None.ensures.steps.0)
