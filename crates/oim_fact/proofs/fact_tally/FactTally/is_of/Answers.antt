use Rattle.std.proofs.Common.{◌≡◌, ◌∙◌, ap, sym, true, false}
use Rattle.filing_model.specs.Oim.Dimensions.{dims_eq}
use Rattle.filing_model.specs.Oim.Facts.{Fact}
use Rattle.oim_fact.specs.declared.tally.Tally.{Tally}
use Rattle.oim_fact.proofs.JoinedTallies.{of_these, of_others}
use Rattle.oim_fact.proofs.fact_tally.FactTally.is_of.Goals as goal

pub returns-then-eq : goal.returns-then-eq
returns-then-eq c facts told =
    let first = c.behind-self.view_is ∙ c.deref.ensures ∙ ap (λ (t : Fact × Tally). t.0) c.self.view_is in
    let same : dims_eq c.args.dims.now c.args.self.now.0.dims ≡ true =
    sym (c.eq.ensures ∙ ap (λ (f : Fact). dims_eq c.args.dims.now f.dims) first) ∙ c.if-eq.true in
    c.is_together.ensures ∙ ap (λ (t : Fact × Tally). t.1.together) c.self.view_is
    ∙ of_these c.args.self.now.0 c.args.self.now.1 c.args.dims.now facts same told

pub returns-else-eq : goal.returns-else-eq
returns-else-eq c facts told =
    let first = c.behind-self.view_is ∙ c.deref.ensures ∙ ap (λ (t : Fact × Tally). t.0) c.self.view_is in
    let differ : dims_eq c.args.dims.now c.args.self.now.0.dims ≡ false =
    sym (c.eq.ensures ∙ ap (λ (f : Fact). dims_eq c.args.dims.now f.dims) first) ∙ c.if-eq.false in
    of_others c.args.self.now.0 c.args.self.now.1 c.args.dims.now facts differ told
