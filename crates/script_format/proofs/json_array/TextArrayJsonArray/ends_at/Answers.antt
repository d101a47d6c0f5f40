use Rattle.script_format.proofs.ReadParts.{end_read}
use Rattle.script_format.proofs.json_array.TextArrayJsonArray.ends_at.Goals as goal

pub returns : goal.returns
returns c = end_read c.args.self.now.value c.args.place c.args.self.now.in_range _ c.end_in.ensures
