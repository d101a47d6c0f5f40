use Rattle.std.proofs.Common.{◌∙◌, ap, sym, map}
use Rattle.std.specs.Option.{option_and_then}
use Rattle.std.specs.List.{position}
use Rattle.filing_model.specs.Oim.Duplicates.{has_dims}
use Rattle.filing_model.proofs.Oim.ByPairs.{position_view}
use Rattle.filing_model.proofs.by_pairs.least_disallowed_by_pairs.Goals as goal

pub returns : goal.returns
returns g c =
    c.first_with.ensures
    ∙ sym (position_view (has_dims (g.F.PairedFact.fact c.in_ok-least.least.now).dims) g.F.PairedFact.fact c.args.facts.now)
    ∙ ap (λ o. option_and_then (λ dims. position (has_dims dims) (map g.F.PairedFact.fact c.args.facts.now)) o) c.in_ok-least.ensures
