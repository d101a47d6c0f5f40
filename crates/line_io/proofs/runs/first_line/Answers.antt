use Rattle.line_io.proofs.LinesInTurn.{cut_lines, no_line, whole_line}
use Rattle.line_io.proofs.runs.first_line.Goals as goal

pub returns-in-Some-clause-lines : goal.returns-in-Some-clause-lines
returns-in-Some-clause-lines c = cut_lines c.args.text.now c.in-Some.line.now c.in-Some.others.now c.in-Some.ensures

pub returns-then-is_empty-clause-lines : goal.returns-then-is_empty-clause-lines
returns-then-is_empty-clause-lines c = no_line c.args.text.now c.in_default.ensures c.if-is_empty.ensures

pub returns-clause-lines : goal.returns-clause-lines
returns-clause-lines c =
    whole_line c.args.text.now c.split_at.result.0.now c.split_at.result.1.now c.in_default.ensures c.if-is_empty.ensures
    c.split_at.ensures.front c.split_at.ensures.back
