use Rattle.std.proofs.Common.{◌∙◌, ap, Ok}
use Rattle.std.specs.Prelude.{option_map, string_bytes}
use Rattle.std.specs.Arc.{arc_value}
use Rattle.std.proofs.lemmas.Result.{IfOk-weaker}
use Rattle.filing_model.specs.Sessions.Repository.{report_at}
use Rattle.filing_session.proofs.PutsStaged.{added_is}
use Rattle.filing_session.proofs.writes.add_new.Goals as goal

pub returns-in_ok-fact-in-Ok : goal.returns-in_ok-fact-in-Ok
returns-in_ok-fact-in-Ok c =
    let copy = c.args.staging.now.0 in
    let added = added_is copy c.args.staging.now.1 (string_bytes c.args.report) (string_bytes c.args.id) c.args.raw c.in-Some.names.now (arc_value c.in_ok-fact-in-Ok.fact)
    (c.in-Some.ensures ∙ (λ i. option_map (λ r. r.names) (report_at copy (c.deref.ensures i))))
    c.requires
    (ap Ok c.in_ok-fact-in-Ok.ensures.ok ∙ c.in-Ok.ensures) in
    IfOk-weaker c.put.result _ _ (λ r is. is ∙ added) c.put.ensures
