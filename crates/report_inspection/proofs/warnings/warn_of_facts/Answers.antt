use Rattle.std.proofs.Common.{◌≡◌, subst}
use Rattle.report_inspection.specs.Warnings.{AreOfFacts, Tells}
use Rattle.report_inspection.specs.KeptFacts.{members_seen}
use Rattle.report_inspection.proofs.ToldWarnings.{warned_all, warned_none, warned_one}
use Rattle.report_inspection.proofs.warnings.warn_of_facts.Goals as goal

pub loop-id-init : goal.loop-id-init
loop-id-init c = warned_none (members_seen c.into_iter-id-iterator.result) c.args.warnings.now.items

pub loop-id-preserved : goal.loop-id-preserved
loop-id-preserved c =
    warned_one c.in-Some.id.now c.in-Some.fact.now (members_seen c.into_iter-id-iterator.result) c.loop-id.id-iterator c.next.new.self
    _ _ _ c.loop-id.invariant c.in-Some.ensures.steps c.in_ok-warn_of_fact.ensures

pub returns : goal.returns
returns c =
    let all : c.into_iter-id-iterator.result ≡ c.args.facts.now.entries = c.into_iter-id-iterator.ensures.into_iter_gives.0 in
    subst (λ es. Tells (AreOfFacts (members_seen es)) c.args.warnings.now.items c.loop-id.warnings.items) all
    (warned_all (members_seen c.into_iter-id-iterator.result) c.loop-id.id-iterator _ _ c.loop-id.invariant c.in-None.ensures.steps.0)
