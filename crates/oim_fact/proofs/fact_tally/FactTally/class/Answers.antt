use Rattle.std.proofs.Common.{sym, subst}
use Rattle.std.specs.Arc.{arc_value}
use Rattle.filing_model.specs.Oim.Facts.{Fact}
use Rattle.oim_fact.specs.declared.tally.Tally.{Tally}
use Rattle.oim_fact.specs.Tallies.{IsTallyOf}
use Rattle.oim_fact.proofs.JoinedTallies.{told_class}
use Rattle.oim_fact.proofs.fact_tally.FactTally.class.Goals as goal

pub returns : goal.returns
returns c facts told =
    told_class (arc_value c.self.inside.first) c.self.inside.tally c.class.result facts c.class.ensures
    (subst (λ (t : Fact × Tally). IsTallyOf t facts) (sym c.self.view_is) told)
