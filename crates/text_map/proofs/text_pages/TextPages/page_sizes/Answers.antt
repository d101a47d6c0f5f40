use Rattle.std.proofs.Common.{◌∙◌, ap, sym, subst, length}
use Rattle.std.specs.Prelude.{IfOk}
use Rattle.sorted_pages.specs.Pages.{AreSizes}
use Rattle.filing_model.proofs.Common.MapsOfLists.{from_entries-sorted}
use Rattle.text_map.proofs.text_pages.TextPages.page_sizes.Goals as goal

pub returns : goal.returns
returns g c =
    subst (λ es. IfOk c.page_sizes.result (λ sizes. AreSizes sizes.items (length es)))
    (sym (from_entries-sorted c.self.inside.pages c.self.invariant) ∙ ap (λ m. m.entries) c.self.view_is) c.page_sizes.ensures
