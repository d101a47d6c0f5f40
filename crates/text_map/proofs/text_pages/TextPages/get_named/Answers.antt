use Rattle.std.proofs.Common.{◌∙◌, ap, sym}
use Rattle.std.specs.Prelude.{option_map}
use Rattle.sorted_pages.specs.Ranges.{first_within}
use Rattle.filing_model.specs.Common.Text.{text_cmp}
use Rattle.filing_model.specs.Common.TextMap.{get}
use Rattle.filing_model.proofs.Common.TextMaps.{get-from_entries}
use Rattle.text_map.proofs.NamedLists.{first_named}
use Rattle.text_map.proofs.text_pages.TextPages.get_named.Goals as goal

pub returns : goal.returns
returns g c =
    c.first_in.ensures ∙ ap (λ name. first_within (λ n. text_cmp n.0 name) c.self.inside.pages) c.of.ensures
    ∙ first_named c.args.name.now c.self.inside.pages
    ∙ ap (option_map (λ v. (c.args.name.now, v)))
    (sym (get-from_entries c.self.inside.pages c.args.name.now) ∙ ap (λ m. get m c.args.name.now) c.self.view_is)
