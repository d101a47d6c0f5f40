use Rattle.std.proofs.Common.{length}
use Rattle.line_io.proofs.DeviceSteps.{IsUpTo}
use Rattle.line_io.proofs.sink.write_all.Given as goal

abbrev pub invariant-loop-rest : goal.invariant-loop-rest
invariant-loop-rest g l = IsUpTo (g.W.Sink.state l.initial.sink) (g.W.Sink.state l.sink) l.bytes l.rest

abbrev pub decreases-loop-rest : goal.decreases-loop-rest
decreases-loop-rest g l = length l.rest
