use Rattle.std.proofs.Common.{◌≡◌, ◌∙◌, Some, ap, sym, option_and_then, option_map, rules}
use Rattle.json.specs.Value.{value_view}
use Rattle.serde_json.specs.Read.{of_json}
use Rattle.filing_model.specs.Reading.JsonText.{json_of}
use Rattle.oim_report.specs.Borrowed.{data_of, IsInRange}
use Rattle.oim_report.proofs.InRange.{the_value}
use Rattle.script_format.specs.ScriptLines.{Load, line_of}
use Rattle.script_format.proofs.ReadLoads.{load_is}
use Rattle.script_format.proofs.line_outcome.load_of_text.Goals as goal

pub report_of_text-report-requires : goal.report_of_text-report-requires
report_of_text-report-requires c =
    let v = c.in-Some.value in
    let j = value_view v in
    let there : IsInRange v = grind rules in
    (load_is j (data_of v) c.in-Some-load_parts.name.now (value_view c.in-Some-load_parts.report) (the_value (of_json j) there)
    (sym c.in-Some-load_parts.ensures)).0

pub returns : goal.returns
returns c =
    let v = c.in-Some.value in
    let j = value_view v in
    let there : IsInRange v = grind rules in
    let is = load_is j (data_of v) c.in-Some-load_parts.name.now (value_view c.in-Some-load_parts.report) (the_value (of_json j) there)
    (sym c.in-Some-load_parts.ensures) in
    let read : Some (data_of v) ≡ json_of c.args.line.now = ap (option_map data_of) (sym c.in-Some.is) ∙ c.in_ok-value.ensures.value in
    let r = data_of c.in-Some-load_parts.report in
    (r, ap (option_and_then line_of) (sym read) ∙ is.1 ∙ ap (λ name. Some (Load name r)) (sym c.in_ok-name.ensures.ok), c.report_of_text-report.ensures)
