use Rattle.std.proofs.Common.{ap, ◌∙◌}
use Rattle.std.specs.declared.result.Result.TheVariants.{Err}
use Rattle.std.proofs.lemmas.Result.{err_from_is_err_and, on_ok_weaker}
use Rattle.line_io.proofs.TakenLines.{taken_none, taken_more, taken_err, taken_end, taken_count, taken_rest}
use Rattle.line_io.proofs.runs.Progress.take_lines.Goals as goal

pub loop-line-init : goal.loop-line-init
loop-line-init g c = taken_none g.D.Mode.conduct g.met.D.Mode.keeps_on _ _ _ _

pub loop-line-preserved : goal.loop-line-preserved
loop-line-preserved g c =
    taken_more g.D.Mode.conduct g.met.D.Mode.keeps_on _ _ c.loop-line.invariant c.in-Some.ensures c.in_ok-end_line.ensures.takes
    c.in_ok-end_line.ensures.begun c.in_ok-end_line.ensures.lines

pub returns-in_err-end_line-clause-takes : goal.returns-in_err-end_line-clause-takes
returns-in_err-end_line-clause-takes g c =
    let p = err_from_is_err_and c.from_residual.result c.from_residual.ensures.1 in
    taken_err g.D.Mode.conduct g.met.D.Mode.keeps_on _ c.in_err-end_line.field-0.0 c.from_residual.result c.loop-line.invariant c.in-Some.ensures
    (p.1 ∙ ap Err p.2) c.in_err-end_line.ensures.takes

pub returns-clause-takes : goal.returns-clause-takes
returns-clause-takes g c =
    taken_end g.D.Mode.conduct g.met.D.Mode.keeps_on c.go_on.result _ c.loop-line.invariant c.in_default.ensures
    (ap (λ o. o.waiting.items) c.go_on.ensures.outbox) c.go_on.ensures.err c.go_on.ensures.some

pub returns-clause-begun : goal.returns-clause-begun
returns-clause-begun g c = on_ok_weaker c.go_on.result
    (λ same. same ∙ taken_rest g.D.Mode.conduct g.met.D.Mode.keeps_on c.loop-line.invariant c.in_default.ensures) c.go_on.ensures.ok

pub returns-clause-lines : goal.returns-clause-lines
returns-clause-lines g c = on_ok_weaker c.go_on.result
    (λ _. c.go_on.ensures.lines ∙ taken_count g.D.Mode.conduct g.met.D.Mode.keeps_on c.loop-line.invariant c.in_default.ensures) c.go_on.ensures.ok
