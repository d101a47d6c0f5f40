-- What is told of facts with more at the end.
use Rattle.std.proofs.Common.{◌≡◌, ap, sym, refl, subst, ◌++◌, List, [], ◌∷◌}
use Rattle.filing_model.specs.Oim.Facts.{Fact}
use Rattle.oim_fact.specs.Tallies.{IsTallyOf}
use Rattle.oim_fact.specs.declared.tally.Tally.{Tally}
use Rattle.filing_index.specs.CellSums.{Tells}
use Rattle.filing_index.specs.declared.cells.CellSum.{CellSum}
use Rattle.filing_index.specs.declared.cells.CellSum.TheVariants as sum

-- after none there is only what comes
pub after_none : (before after : CellSum) (facts more : List Fact) → before ≡ sum.Empty → Tells before facts → Tells after more
    → Tells after (facts ++ more)
after_none before after facts more is told tells =
    let none : facts ≡ [] = subst (λ s. Tells s facts) is told in
    subst (λ fs. Tells after (fs ++ more)) (sym none) tells

-- what a tally is of
pub tally_of : (before : CellSum) (tally : Fact × Tally) (facts : List Fact) → before ≡ sum.Tally tally → Tells before facts
    → IsTallyOf tally facts
tally_of before tally facts is told = subst (λ s. Tells s facts) is told
