-- Facts that a cell and others hold together.
use Rattle.std.specs.Prelude.{List, map}
use Rattle.std.specs.Borrow.{Bor}
use Rattle.std.specs.Arc.{arc_value}
use Rattle.std.specs.declared.sync.Arc.{Arc}
use Rattle.std.specs.declared.alloc.Global.{Global}
use Rattle.filing_model.specs.Oim.Facts.{Fact}

-- a reference to a shared fact
abbrev pub FactRef : Type 0
FactRef = Bor (Arc Fact Global)

-- the facts behind some references
abbrev pub facts_behind : List FactRef → List Fact
facts_behind given = map (λ f. arc_value f.now) given
