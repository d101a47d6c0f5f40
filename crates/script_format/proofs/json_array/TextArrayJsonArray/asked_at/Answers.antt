use Rattle.script_format.proofs.ReadParts.{asked_read}
use Rattle.script_format.proofs.json_array.TextArrayJsonArray.asked_at.Goals as goal

pub returns : goal.returns
returns c = asked_read c.args.self.now.value c.args.place c.args.self.now.in_range _ c.asked_in.ensures
