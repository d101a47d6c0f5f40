use Rattle.std.proofs.Common.{◌∙◌, sym, subst, T}
use Rattle.std.specs.FinMap.Entries.{is_sorted}
use Rattle.filing_model.specs.Common.Text.{text_cmp}
use Rattle.filing_model.proofs.Common.MapsOfLists.{from_entries-sorted}
use Rattle.text_map.proofs.NamedLists.{is_sorted-keyed}
use Rattle.text_map.proofs.text_pages.TextPages.of_sorted.Goals as goal

pub of_sorted-requires : goal.of_sorted-requires
of_sorted-requires g c = subst T (sym (is_sorted-keyed c.args.entries.items)) c.requires

pub invariant_of-result : goal.invariant_of-result
invariant_of-result g c = subst (λ es. T (is_sorted text_cmp es)) (sym c.in_ok-pages.ensures) c.requires

pub returns : goal.returns
returns g c =
    from_entries-sorted c.in_ok-pages.pages (subst (λ es. T (is_sorted text_cmp es)) (sym c.in_ok-pages.ensures) c.requires)
    ∙ c.in_ok-pages.ensures
