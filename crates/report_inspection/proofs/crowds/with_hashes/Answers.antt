use Rattle.std.proofs.Common.{◌∙◌, ◌++◌, ap, sym}
use Rattle.oim_report.specs.Parts.{facts_view}
use Rattle.report_inspection.specs.Crowds.{is_in, with_hashes}
use Rattle.report_inspection.proofs.CrowdedFacts.{kept_step, passed_step}
use Rattle.report_inspection.proofs.crowds.with_hashes.Goals as goal

pub loop-fact-preserved-in-Continue-1 : goal.loop-fact-preserved-in-Continue-1
loop-fact-preserved-in-Continue-1 c =
    let hashes = c.args.hashes.now.keys in
    ap (λ xs. facts_view xs ++ with_hashes hashes (facts_view c.next.new.self.rest.items)) c.in_ok-push.ensures.items
    ∙ kept_step hashes c.loop-fact.kept.items c.in-Some.fact c.loop-fact.fact-iterator.rest.items c.next.new.self.rest.items _
    c.in-Some.ensures.steps.0 (ap (is_in hashes) (sym c.hash_of.ensures) ∙ sym c.contains.ensures ∙ c.if-contains.true) c.loop-fact.invariant

pub loop-fact-preserved : goal.loop-fact-preserved
loop-fact-preserved c =
    let hashes = c.args.hashes.now.keys in
    passed_step hashes c.loop-fact.kept.items c.in-Some.fact c.loop-fact.fact-iterator.rest.items c.next.new.self.rest.items _
    c.in-Some.ensures.steps.0 (ap (is_in hashes) (sym c.hash_of.ensures) ∙ sym c.contains.ensures ∙ c.if-contains.false) c.loop-fact.invariant
