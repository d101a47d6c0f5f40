use Rattle.std.proofs.Common.{take, drop, ap, sym, ◌∙◌, ◌+◌, arith}
use Rattle.line_io.proofs.CutLines.{position_some, position_none}
use Rattle.line_io.proofs.runs.split_line.Goals as goal

pub returns : goal.returns
returns c =
    let at = position_some c.args.text.now c.in_ok-end.end (sym c.line_end.ensures ∙ c.in_ok-end.was) in record {
      within = omega (arith, at.0, at.1);
      line_is = c.split_at.ensures.front ∙ ap (λ n. take n c.args.text.now) (sym at.0);
      others_are = c.split_at-2.ensures.back ∙ ap (λ n. drop (n + 1) c.args.text.now) (sym at.0);
    }

pub returns-in_err-end : goal.returns-in_err-end
returns-in_err-end c = rw c.from_residual.ensures (position_none c.args.text.now (sym c.line_end.ensures ∙ c.in_err-end.was))
