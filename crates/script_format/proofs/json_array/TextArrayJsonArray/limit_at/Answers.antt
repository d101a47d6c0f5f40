use Rattle.script_format.proofs.ReadParts.{limit_read}
use Rattle.script_format.proofs.json_array.TextArrayJsonArray.limit_at.Goals as goal

pub returns : goal.returns
returns c = limit_read c.args.self.now.value c.args.place c.args.self.now.in_range _ c.limit_in.ensures
