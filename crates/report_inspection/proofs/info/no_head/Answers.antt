use Rattle.std.proofs.Common.{option_map, refl}
use Rattle.std.specs.Arc.{arc_value}
use Rattle.serde_json.specs.View.{view}
use Rattle.report_inspection.proofs.HeadParts.{no_head}
use Rattle.report_inspection.proofs.info.no_head.Goals as goal

pub returns : goal.returns
returns c = no_head (arc_value c.args.table.now) (option_map view c.args.info) _ _ c.requires c.in_ok-push_told.ensures c.new-faults.ensures.items refl refl
