use Rattle.std.proofs.Common.{◌≡◌, sym, subst}
use Rattle.std.proofs.lemmas.Result.{IfOk-weaker}
use Rattle.oim_report.specs.Parts.{facts_view}
use Rattle.report_inspection.specs.Crowds.{AreTwice, KeepsShared, with_hashes}
use Rattle.report_inspection.proofs.CrowdedFacts.{keeps_shared}
use Rattle.report_inspection.proofs.crowds.crowded_facts.Goals as goal

pub returns : goal.returns
returns c =
    let all = facts_view c.args.facts.items in
    let hashes = c.in_ok-hashes.hashes.keys in
    IfOk-weaker c.with_hashes.result (λ v. facts_view v.items ≡ with_hashes hashes all) (λ v. KeepsShared all (facts_view v.items))
    (λ v is. subst (KeepsShared all) (sym is)
    (keeps_shared hashes all (subst (λ xs. AreTwice (facts_view xs) hashes) c.deref.ensures.value c.in_ok-hashes.ensures)))
    c.with_hashes.ensures
