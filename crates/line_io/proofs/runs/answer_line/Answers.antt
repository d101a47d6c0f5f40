use Rattle.std.proofs.Common.{sym, ◌∙◌}
use Rattle.line_io.proofs.TakenLines.{answered_blank, answered_one, broken_one, starved_one}
use Rattle.line_io.proofs.runs.answer_line.Goals as goal

pub returns-then-is_blank : goal.returns-then-is_blank
returns-then-is_blank g c =
    answered_blank g.D.Mode.conduct g.met.D.Mode.keeps_on _ c.args.line.now (sym c.is_blank.ensures ∙ c.if-is_blank.true)

pub returns-in_default : goal.returns-in_default
returns-in_default g c =
    starved_one g.D.Mode.conduct g.met.D.Mode.keeps_on _ _ _ _ c.args.line.now c.args.number (sym c.is_blank.ensures ∙ c.if-is_blank.false)
    c.in_default.ensures.starves

pub returns-in_default-send : goal.returns-in_default-send
returns-in_default-send g c =
    broken_one g.D.Mode.conduct g.met.D.Mode.keeps_on _ _ _ _ _ _ _ c.args.line.now _ (sym c.is_blank.ensures ∙ c.if-is_blank.false)
    c.in-Ok.ensures.replies (rw c.as_bytes.ensures.value at c.in_default-send.ensures)

pub returns : goal.returns
returns g c =
    answered_one g.D.Mode.conduct g.met.D.Mode.keeps_on _ _ _ _ _ _ _ c.args.line.now _ (sym c.is_blank.ensures ∙ c.if-is_blank.false)
    c.in-Ok.ensures.replies (rw c.as_bytes.ensures.value at c.in-Ok-send.ensures)
