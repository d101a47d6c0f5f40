use Rattle.line_io.proofs.RunByReads.{IsRead}
use Rattle.line_io.proofs.runs.run_with.Given as goal

abbrev pub invariant-loop-turn : goal.invariant-loop-turn
invariant-loop-turn g l =
    IsRead g.D.Mode.conduct l.initial.machine l.machine (g.R.Source.state l.initial.source) (g.R.Source.state l.source)
    (g.W.Sink.state l.initial.sink) (g.W.Sink.state l.sink) l._turn l.progress.begun.items l.progress.outbox.waiting.items l.progress.lines
