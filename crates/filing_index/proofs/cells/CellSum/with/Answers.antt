use Rattle.std.proofs.Common.{[], ◌∷◌}
use Rattle.std.specs.Arc.{arc_value}
use Rattle.filing_index.proofs.ToldSums.{after_none, tally_of}
use Rattle.filing_index.proofs.cells.CellSum.with.Goals as goal

pub returns-in-Empty : goal.returns-in-Empty
returns-in-Empty c facts told =
    after_none c.args.self c.of_fact.result facts (arc_value c.args.fact.now ∷ []) c.in-Empty.is told c.of_fact.ensures

pub returns-in-Tally : goal.returns-in-Tally
returns-in-Tally c facts told = c.with_fact.ensures facts (tally_of c.args.self c.in-Tally.tally facts c.in-Tally.is told)
