use Rattle.std.proofs.Common.{sym, subst}
use Rattle.std.specs.Arc.{arc_value}
use Rattle.filing_model.specs.Oim.Facts.{Fact}
use Rattle.oim_fact.specs.declared.tally.Tally.{Tally}
use Rattle.oim_fact.specs.Tallies.{IsTallyOf}
use Rattle.oim_fact.proofs.JoinedTallies.{told_with_one}
use Rattle.oim_fact.proofs.fact_tally.FactTally.add.Goals as goal

pub returns : goal.returns
returns c facts told =
    told_with_one (arc_value c.self.inside.first) c.deref.result.now c.args.fact.now c.self.inside.tally c.add.new.self facts
    c.deref.ensures c.add.ensures
    (subst (λ (t : Fact × Tally). IsTallyOf t facts) (sym c.self.view_is) told)
