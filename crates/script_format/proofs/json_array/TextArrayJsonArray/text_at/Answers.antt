use Rattle.script_format.proofs.ReadParts.{text_read}
use Rattle.script_format.proofs.json_array.TextArrayJsonArray.text_at.Goals as goal

pub returns : goal.returns
returns c = text_read c.args.self.now.value c.args.place c.args.self.now.in_range _ c.text_in.ensures
