use Rattle.std.proofs.Common.{◌≡◌, map, drop, fold}
use Rattle.std.specs.Option.{option_map}
use Rattle.std.specs.List.{filter}
use Rattle.filing_model.specs.Oim.Duplicates.{is_disallowed, disallowed_dims, least_dims, lesser_dims}
use Rattle.filing_model.proofs.by_pairs.least_disallowed_fact.Given as goal

-- the facts still to come change the least so far as all facts change nothing
abbrev pub invariant-loop-fact : goal.invariant-loop-fact
invariant-loop-fact g l = fold lesser_dims (option_map (λ f. (g.F.PairedFact.fact f.now).dims) l.least)
    (filter (is_disallowed l.allowed (map g.F.PairedFact.fact l.facts))
    (map (λ f. f.dims) (map g.F.PairedFact.fact (drop l.fact-index l.facts))))
    ≡ least_dims (disallowed_dims l.allowed (map g.F.PairedFact.fact l.facts))
