use Rattle.std.proofs.Common.{sym, subst}
use Rattle.std.specs.Arc.{arc_value}
use Rattle.filing_model.specs.Oim.Facts.{Fact}
use Rattle.oim_fact.specs.declared.tally.Tally.{Tally}
use Rattle.oim_fact.specs.Tallies.{IsTallyOf}
use Rattle.oim_fact.proofs.JoinedTallies.{told_with_all}
use Rattle.oim_fact.proofs.fact_tally.FactTally.add_all.Goals as goal

pub returns : goal.returns
returns c facts more told told_more =
    told_with_all (arc_value c.self.inside.first) c.deref.result.now (arc_value c.other.inside.first) c.deref-2.result.now
    c.self.inside.tally c.other.inside.tally c.add_all.new.self facts more c.deref.ensures c.deref-2.ensures c.add_all.ensures
    (subst (λ (t : Fact × Tally). IsTallyOf t facts) (sym c.self.view_is) told)
    (subst (λ (t : Fact × Tally). IsTallyOf t more) (sym c.other.view_is) told_more)
