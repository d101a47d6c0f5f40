use Rattle.std.proofs.Common.{◌∙◌, ap}
use Rattle.filing_model.specs.Common.TextMap.{remove}
use Rattle.filing_model.specs.Common.Keyed.{keyed_map}
use Rattle.filing_model.proofs.Common.KeyedRemovals.{keyed_map_remove_entry}
use Rattle.text_map.proofs.name_map.NameMap.remove.Goals as goal

pub returns : goal.returns
returns g c =
    ap (λ es. keyed_map (λ v. v) es) c.remove.ensures.entries
    ∙ keyed_map_remove_entry (λ v. v) c.self.inside.by_name.entries c.of.result c.len.ensures.ordered
    ∙ (λ i. remove (c.self.view_is i) (c.of.ensures i))
