use Rattle.std.proofs.Common.{arith}
use Rattle.std.proofs.lemmas.Grind.{common_steps}
use Rattle.line_io.proofs.DeviceSteps.{up_to_none, up_to_more}
use Rattle.line_io.proofs.sink.write_all.Goals as goal

pub loop-rest-init : goal.loop-rest-init
loop-rest-init g c = up_to_none _ _

pub loop-rest-preserved : goal.loop-rest-preserved
loop-rest-preserved g c =
    up_to_more c.in_ok-count.count c.loop-rest.invariant c.in_ok-count.ensures.bytes (c.in_ok-count.ensures.failed.something (omega arith))
    (grind (arith, common_steps))
