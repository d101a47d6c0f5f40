use Rattle.std.proofs.Common.{option_map}
use Rattle.std.specs.Arc.{arc_value}
use Rattle.serde_json.specs.View.{view}
use Rattle.oim_report.proofs.ReportsByParts.{info_of_declared}
use Rattle.oim_report.proofs.reading.declaration.Goals as goal

pub returns-clause-info : goal.returns-clause-info
returns-clause-info c =
    info_of_declared (arc_value c.args.table.now) (option_map view c.args.value) _ _ _ _ c.in_ok-document_info.ensures
    c.in_ok-allowed.ensures c.in_ok-names.ensures c.in_ok-info.ensures.text c.in_ok-info.ensures.writable
