use borrow.Author.Tests.{true-eqb, false-eqb}
use Rattle.std.proofs.Common.{◌≡◌, ◌<◌, length, arith}
use Rattle.line_io.proofs.TakenLines.{finished_some}
use Rattle.line_io.proofs.WrittenOut.{takes_out, finished_out}
use Rattle.line_io.proofs.runs.Progress.finish.Goals as goal

pub returns-then-is_empty-clause-takes : goal.returns-then-is_empty-clause-takes
returns-then-is_empty-clause-takes g c =
    let none : length c.args.self.now.begun.items ≡ 0 = omega (arith, true-eqb _ 0 c.if-is_empty.ensures, c.args.self.now.begun.ok.0) in
    finished_out g.D.Mode.conduct g.met.D.Mode.keeps_on _ _ _ _ _ _ _ _ none c.write_out.ensures.written

pub returns-clause-takes : goal.returns-clause-takes
returns-clause-takes g c =
    let some : 0 < length c.args.self.now.begun.items = omega (arith, false-eqb _ 0 c.if-is_empty.ensures, c.args.self.now.begun.ok.0) in
    takes_out g.D.Mode.conduct g.met.D.Mode.keeps_on _ _ _ _ _ _ _ _ _ _ _
    (finished_some g.D.Mode.conduct g.met.D.Mode.keeps_on _ _ _ _ _ some c.end_line-taken.ensures.takes) c.write_out-2.ensures.written
