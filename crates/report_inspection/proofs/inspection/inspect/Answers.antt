use Rattle.std.proofs.Common.{◌∙◌, ap, sym, option_map}
use Rattle.std.proofs.lemmas.Result.{IfOk-weaker}
use Rattle.std.specs.Arc.{arc_value}
use Rattle.filing_model.specs.Reading.JsonText.{json_of}
use Rattle.oim_report.specs.Borrowed.{data_of}
use Rattle.report_inspection.specs.Inspections.{IsInspection, TellsOf}
use Rattle.report_inspection.proofs.LoadedReports.{inspected, json_shallow, tells_no_json}
use Rattle.report_inspection.proofs.inspection.inspect.Goals as goal

pub inspect_value-requires-clause-shallow : goal.inspect_value-requires-clause-shallow
inspect_value-requires-clause-shallow c =
    json_shallow c.without_mark-text.result.now (data_of c.in-Some.value) (sym c.in_ok-value.ensures.value ∙ ap (option_map data_of) c.in-Some.is)

pub returns-in-Some : goal.returns-in-Some
returns-in-Some c =
    IfOk-weaker c.inspect_value.result (TellsOf (arc_value c.args.table.now) c.args.asked (data_of c.in-Some.value))
    (IsInspection (arc_value c.args.table.now) c.args.asked c.args.bytes.now)
    (λ i told. inspected (arc_value c.args.table.now) c.args.asked c.args.bytes.now (data_of c.in-Some.value) i
    (ap json_of (sym c.without_mark-text.ensures) ∙ sym c.in_ok-value.ensures.value ∙ ap (option_map data_of) c.in-Some.is) told)
    c.inspect_value.ensures.told

pub returns : goal.returns
returns c =
    tells_no_json (arc_value c.args.table.now) c.args.asked c.args.bytes.now c.no_json.result
    (ap json_of (sym c.without_mark-text.ensures) ∙ sym c.in_ok-value.ensures.value ∙ ap (option_map data_of) c.in-None.is)
    c.no_json.ensures.faults c.no_json.ensures.facts c.no_json.ensures.cells c.no_json.ensures.loads
