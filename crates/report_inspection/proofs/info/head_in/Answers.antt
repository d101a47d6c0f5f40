use Rattle.std.proofs.Common.{◌∙◌, ap, sym, codes, option_map}
use Rattle.serde_json.specs.View.{view}
use Rattle.oim_report.specs.Borrowed.{data_of}
use Rattle.report_inspection.proofs.HeadParts.{part_depth}
use Rattle.report_inspection.proofs.info.head_in.Goals as goal

pub head_of-requires-clause-shallow : goal.head_of-requires-clause-shallow
head_of-requires-clause-shallow c =
    part_depth (codes "documentInfo") (data_of c.args.value.now) (view c.in-Some.info)
    (sym c.in_ok-info.ensures ∙ ap (option_map view) c.in-Some.is) c.requires.shallow
