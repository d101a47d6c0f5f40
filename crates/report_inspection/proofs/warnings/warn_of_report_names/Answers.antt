use Rattle.std.proofs.Common.{None}
use Rattle.std.proofs.lemmas.Result.{on_ok_weaker}
use Rattle.json.specs.Value.{value_view}
use Rattle.report_inspection.specs.Warnings.{is_repeated_in_report, is_unknown_in_report}
use Rattle.report_inspection.specs.declared.warning.WarningKind.TheVariants.{NameTwice, NotRead}
use Rattle.report_inspection.proofs.ToldWarnings.{by_test, tells_then}
use Rattle.report_inspection.proofs.warnings.warn_of_report_names.Goals as goal

pub returns : goal.returns
returns c =
    let report = value_view c.args.report.now in
    on_ok_weaker c.warn_of_names-2.result (λ h. tells_then _ _ _ _ _
    (by_test NameTwice None c.in_ok-repeated.repeated (is_repeated_in_report report) _ _ c.in_ok-repeated.ensures c.in_ok-warn_of_names.ensures)
    (by_test NotRead None c.in_ok-unknown.unknown (is_unknown_in_report report) _ _ c.in_ok-unknown.ensures h)) c.warn_of_names-2.ensures
