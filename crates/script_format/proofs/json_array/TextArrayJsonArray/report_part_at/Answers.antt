use Rattle.script_format.proofs.ReadParts.{report_part_read}
use Rattle.script_format.proofs.json_array.TextArrayJsonArray.report_part_at.Goals as goal

pub returns : goal.returns
returns c = report_part_read c.args.self.now.value c.args.place c.args.self.now.in_range c.report_part_in.result c.report_part_in.ensures
