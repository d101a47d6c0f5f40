use Rattle.script_format.proofs.ReadParts.{nullable_read}
use Rattle.script_format.proofs.json_array.TextArrayJsonArray.nullable_at.Goals as goal

pub returns : goal.returns
returns c = nullable_read c.args.self.now.value c.args.place c.args.self.now.in_range _ c.nullable_in.ensures
