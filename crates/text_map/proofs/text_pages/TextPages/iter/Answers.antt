use Rattle.std.proofs.Common.{◌∙◌, ap, sym}
use Rattle.filing_model.proofs.Common.MapsOfLists.{from_entries-sorted}
use Rattle.text_map.proofs.NamedLists.{within_all}
use Rattle.text_map.proofs.text_pages.TextPages.iter.Goals as goal

pub returns : goal.returns
returns g c =
    c.range.ensures.entries ∙ within_all c.self.inside.pages ∙ sym (from_entries-sorted c.self.inside.pages c.self.invariant)
    ∙ ap (λ m. m.entries) c.self.view_is
