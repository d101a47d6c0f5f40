use Rattle.std.proofs.Common.{arith}
use Rattle.json.proofs.Printed.Plain.{plain_from_lanes}
use Rattle.oim_report.proofs.plain_text.are_plain.Goals as goal

pub returns : goal.returns
returns g c = plain_from_lanes c.args.bytes.now c.args.at g.row.N c.requires.within c.requires.lanes c.type_inv.bytes
