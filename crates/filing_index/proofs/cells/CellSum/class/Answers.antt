use Rattle.std.proofs.Common.{◌∙◌, sym}
use Rattle.filing_index.proofs.ToldSums.{tally_of}
use Rattle.filing_index.proofs.cells.CellSum.class.Goals as goal

pub returns-then-is_of : goal.returns-then-is_of
returns-then-is_of c = λ facts told.
    let tally = tally_of c.args.self c.in-Tally.tally facts c.in-Tally.is told in
    (sym (c.is_of.ensures facts tally) ∙ c.if-is_of.true, c.class.ensures facts tally)
