use Rattle.std.proofs.Common.{◌∙◌}
use Rattle.std.specs.Prelude.{option_map, string_bytes}
use Rattle.std.specs.Arc.{arc_value}
use Rattle.std.proofs.lemmas.Result.{IfOk-weaker}
use Rattle.filing_model.specs.Sessions.Repository.{report_at, fact_in}
use Rattle.filing_session.proofs.PutsStaged.{removed_is}
use Rattle.filing_session.proofs.writes.remove.Goals as goal

pub returns-in-Found : goal.returns-in-Found
returns-in-Found c =
    let copy = c.args.staging.now.0 in
    let found = removed_is copy c.args.staging.now.1 (string_bytes c.args.report) (string_bytes c.args.id) (arc_value c.in-Found.field-0.now)
    (c.in-Found.ensures ∙ (λ i. option_map (λ r. fact_in r (c.deref-2.ensures i)) (report_at copy (c.deref.ensures i)))) in
    IfOk-weaker c.put.result _ _ (λ r is. is ∙ found) c.put.ensures
