use Rattle.filing_index.proofs.ToldSums.{tally_of}
use Rattle.filing_index.proofs.cells.CellSum.keep.Goals as goal

pub returns-in-Tally : goal.returns-in-Tally
returns-in-Tally c facts told =
    c.keep_tally.ensures facts (tally_of c.args.self c.in-Tally.tally facts c.in-Tally.is told)
