use Rattle.std.proofs.Common.{Some}
use Rattle.std.proofs.lemmas.Result.{on_ok_weaker}
use Rattle.json.specs.Value.{value_view}
use Rattle.report_inspection.specs.MemberNames.{is_repeated_in}
use Rattle.report_inspection.specs.Warnings.{is_unknown_in_fact, of_decimals}
use Rattle.report_inspection.specs.declared.warning.WarningKind.TheVariants.{NameTwice, NotRead}
use Rattle.report_inspection.proofs.ToldWarnings.{by_test, tells_just, tells_then}
use Rattle.report_inspection.proofs.warnings.warn_of_fact.Goals as goal

pub returns : goal.returns
returns c =
    let fact = value_view c.args.fact.now in
    let id = c.args.id.now in
    on_ok_weaker c.warn_of_decimals.result (λ h. tells_then _ _ _ _ _
    (by_test NameTwice (Some id) c.in_ok-repeated.repeated (is_repeated_in fact) _ _ c.in_ok-repeated.ensures c.in_ok-warn_of_names.ensures)
    (tells_then _ _ _ _ _
    (by_test NotRead (Some id) c.in_ok-unknown.unknown (is_unknown_in_fact fact) _ _ c.in_ok-unknown.ensures c.in_ok-warn_of_names-2.ensures)
    (tells_just (of_decimals id fact) _ _ h))) c.warn_of_decimals.ensures
