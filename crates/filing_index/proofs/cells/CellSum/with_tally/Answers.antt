use Rattle.filing_index.proofs.ToldSums.{after_none, tally_of}
use Rattle.filing_index.proofs.cells.CellSum.with_tally.Goals as goal

pub returns-in-Empty : goal.returns-in-Empty
returns-in-Empty c facts others told tally =
    after_none c.args.self c.share_sum.result facts others c.in-Empty.is told (c.share_sum.ensures others tally)

pub returns-in-Tally : goal.returns-in-Tally
returns-in-Tally c facts others told tally =
    c.with_facts.ensures facts others (tally_of c.args.self c.in-Tally.tally facts c.in-Tally.is told) tally
