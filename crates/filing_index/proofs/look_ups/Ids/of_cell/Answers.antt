use Rattle.std.proofs.Common.{◌∙◌, ap, map}
use Rattle.filing_model.specs.Oim.Duplicates.{has_dims}
use Rattle.filing_index.proofs.FoundEntries.{found_all}
use Rattle.filing_index.proofs.look_ups.Ids.of_cell.Goals as goal

pub returns : goal.returns
returns c = λ facts index.
    ap (map (λ e. e.0)) (c.of_hash-facts.ensures facts index ∙ found_all (has_dims c.args.dims.now) facts)
