use Rattle.std.proofs.Common.{◌∙◌, ap, sym, arith}
use Rattle.line_io.specs.Lines.{spoken}
use Rattle.line_io.proofs.LinesInTurn.{blank_first, spoken_first, none_spoken}
use Rattle.line_io.proofs.runs.next_line.Goals as goal

pub returns-then-not-is_blank-clause-lines : goal.returns-then-not-is_blank-clause-lines
returns-then-not-is_blank-clause-lines c =
    c.loop-line.invariant.0
    ∙ spoken_first c.loop-line.rest.now c.in-Some.line.now c.in-Some.others.now c.in-Some.ensures.lines
    (sym c.is_blank.ensures ∙ c.if-not-is_blank.true)

pub loop-line-preserved : goal.loop-line-preserved
loop-line-preserved c = (
  c.loop-line.invariant.0
      ∙ blank_first c.loop-line.rest.now c.in-Some.line.now c.in-Some.others.now c.in-Some.ensures.lines
      (sym c.is_blank.ensures ∙ c.if-not-is_blank.false),
  omega (arith, c.loop-line.invariant.1, c.in-Some.ensures.shorter),
)

pub returns-clause-lines : goal.returns-clause-lines
returns-clause-lines c = c.loop-line.invariant.0 ∙ ap spoken c.in_default.ensures.lines ∙ none_spoken
