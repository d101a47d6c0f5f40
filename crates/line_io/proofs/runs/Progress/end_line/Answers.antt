use Rattle.std.proofs.Common.{arith}
use Rattle.std.proofs.lemmas.Result.{err_from_is_err_and}
use Rattle.line_io.proofs.TakenLines.{starved_first}
use Rattle.line_io.proofs.runs.Progress.end_line.Goals as goal

pub returns-in_err-go_on-clause-takes : goal.returns-in_err-go_on-clause-takes
returns-in_err-go_on-clause-takes g c =
    let p = err_from_is_err_and c.from_residual.result c.from_residual.ensures.1 in
    rw (p.1, p.2, c.in_err-go_on.ensures.err, c.go_on.ensures.outbox)
    (starved_first g.D.Mode.conduct g.met.D.Mode.keeps_on _ _ 1 _ (omega arith))
