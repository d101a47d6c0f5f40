-- What is told of the facts of an index, and what its pages keep of it. The project's own.
use Rattle.std.specs.Prelude.{◌≡◌, List, [], map, Option, Some, None}
use Rattle.std.specs.Arc.{arc_value}
use Rattle.std.specs.declared.sync.Arc.{Arc}
use Rattle.std.specs.declared.alloc.Global.{Global}
use Rattle.filing_model.specs.Oim.Facts.{Fact}
use Rattle.oim_fact.specs.Tallies.{IsTallyOf}
use Rattle.oim_fact.specs.declared.tally.Tally.{Tally}
use Rattle.filing_index.specs.Index.{IndexEntry}
use Rattle.filing_index.specs.declared.cells.CellSum.{CellSum}
use Rattle.filing_index.specs.declared.cells.CellSum.TheVariants as sum

-- the facts of some entries
abbrev pub facts_in : List IndexEntry → List Fact
facts_in entries = map (λ e. e.1) entries

-- what is told of some facts holds of them
abbrev pub Tells : CellSum → List Fact → Type 0
Tells sum.Empty facts = facts ≡ []
Tells (sum.Tally tally) facts = IsTallyOf tally facts
Tells sum.Mixed facts = Unit {0}

-- and what a page keeps of its facts
abbrev pub Keeps : Option (Arc (Fact × Tally) Global) → List Fact → Type 0
Keeps None facts = Unit {0}
Keeps (Some tally) facts = IsTallyOf (arc_value tally) facts
