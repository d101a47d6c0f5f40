use Rattle.std.proofs.Common.{◌≡◌, length, map}
use Rattle.std.specs.Option.{option_map}
use Rattle.filing_model.specs.Oim.Duplicates.{pair_of, every_pair}
use Rattle.filing_model.specs.Oim.ByPairs.{binds, cell_with}
use Rattle.filing_model.proofs.by_pairs.every_pair_is.Given as goal

abbrev pub invariant-loop-left : goal.invariant-loop-left
invariant-loop-left g l = every_pair (λ f h. binds l.bond (pair_of f h))
    (cell_with (option_map (λ f. g.F.PairedFact.fact f.now) l.one) (map g.F.PairedFact.fact l.facts))
    ≡ every_pair (λ f h. binds l.bond (pair_of f h))
    (cell_with (option_map (λ f. g.F.PairedFact.fact f.now) l.one) (map g.F.PairedFact.fact l.left))

abbrev pub decreases-loop-left : goal.decreases-loop-left
decreases-loop-left g l = length l.left
