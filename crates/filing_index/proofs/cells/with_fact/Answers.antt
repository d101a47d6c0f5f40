use Rattle.std.proofs.Common.{[], ◌∷◌, ◌++◌, subst}
use Rattle.filing_model.specs.Oim.Facts.{Fact}
use Rattle.filing_index.specs.CellSums.{Tells}
use Rattle.filing_index.proofs.cells.with_fact.Goals as goal

pub returns : goal.returns
returns c facts told =
    subst (λ (f : Fact). Tells c.sum_of.result (facts ++ f ∷ [])) c.deref.ensures
    (c.sum_of.ensures (facts ++ c.deref.result.now ∷ []) (c.add.ensures facts told))
