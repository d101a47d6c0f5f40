use Rattle.script_format.proofs.ReadParts.{object_read}
use Rattle.script_format.proofs.json_array.TextArrayJsonArray.object_at.Goals as goal

pub returns : goal.returns
returns c = object_read c.args.self.now.value c.args.place c.args.self.now.in_range c.object_in.result c.object_in.ensures
