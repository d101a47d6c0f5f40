use Rattle.std.proofs.Common.{length}
use Rattle.line_io.specs.Pieces.{standing}
use Rattle.line_io.proofs.TakenLines.{IsTaken}
use Rattle.line_io.proofs.runs.Progress.take_lines.Given as goal

abbrev pub invariant-loop-line : goal.invariant-loop-line
invariant-loop-line g l =
    IsTaken g.D.Mode.conduct
    (standing l.initial.machine (g.W.Sink.state l.initial.sink) l.initial.self.outbox.waiting.items)
    (standing l.machine (g.W.Sink.state l.sink) l.self.outbox.waiting.items)
    l.initial.self.begun.items l.self.begun.items l.initial.self.lines l.self.lines l.piece l.rest

abbrev pub decreases-loop-line : goal.decreases-loop-line
decreases-loop-line g l = length l.rest
