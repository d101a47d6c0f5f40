use Rattle.line_io.proofs.WrittenOut.{takes_out}
use Rattle.line_io.proofs.runs.Progress.take_piece.Goals as goal

pub returns-in_default-clause-takes : goal.returns-in_default-clause-takes
returns-in_default-clause-takes g c =
    takes_out g.D.Mode.conduct g.met.D.Mode.keeps_on _ _ _ _ _ _ _ _ _ _ _ c.take_lines-taken.ensures.takes c.write_out.ensures.written
