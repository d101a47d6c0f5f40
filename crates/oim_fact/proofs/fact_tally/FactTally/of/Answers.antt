use Rattle.std.proofs.Common.{[], subst}
use Rattle.std.specs.Arc.{arc_value}
use Rattle.filing_model.specs.Oim.Facts.{Fact}
use Rattle.oim_fact.specs.Tallies.{Describes}
use Rattle.oim_fact.proofs.JoinedTallies.{alone_told}
use Rattle.oim_fact.proofs.fact_tally.FactTally.of.Goals as goal

pub returns : goal.returns
returns c =
    alone_told (arc_value c.in_ok-first.first) (arc_value c.args.fact.now) c.of-tally.result c.in_ok-first.ensures
    (subst (λ (f : Fact). Describes c.of-tally.result f []) c.deref.ensures c.of-tally.ensures)
