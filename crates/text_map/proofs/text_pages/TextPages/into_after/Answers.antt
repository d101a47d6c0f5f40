use Rattle.std.proofs.Common.{◌∙◌, ap, sym, subst, T, map}
use Rattle.std.specs.FinMap.Entries.{is_sorted}
use Rattle.sorted_pages.specs.Changes.{entry_of}
use Rattle.filing_model.specs.Common.Text.{text_cmp}
use Rattle.filing_model.specs.Common.TextMap.{from_entries}
use Rattle.text_map.specs.MapChanges.{map_with_changes}
use Rattle.text_map.proofs.NamedLists.{is_sorted-keyed}
use Rattle.text_map.proofs.MapsOfChanges.{sorted_with_changes, map_of_changed_list}
use Rattle.text_map.proofs.text_pages.TextPages.into_after.Goals as goal

pub into_after-requires : goal.into_after-requires
into_after-requires g c = subst T (sym (is_sorted-keyed (map entry_of c.args.changes.now))) c.requires

pub invariant_of-result : goal.invariant_of-result
invariant_of-result g c =
    subst (λ es. T (is_sorted text_cmp es)) (sym c.in_ok-pages.ensures)
    (sorted_with_changes c.args.changes.now c.self.inside.pages c.self.invariant c.requires)

pub returns : goal.returns
returns g c =
    ap from_entries c.in_ok-pages.ensures
    ∙ map_of_changed_list c.args.changes.now c.self.inside.pages c.self.invariant c.requires
    ∙ ap (map_with_changes c.args.changes.now) c.self.view_is
