use Rattle.std.proofs.Common.{◌≡◌, ◌∙◌, ap, sym, subst, T, [], ◌∷◌, Some}
use Rattle.std.specs.Prelude.{option_map, IfSome}
use Rattle.std.specs.FinMap.Entries.{is_sorted}
use Rattle.sorted_pages.specs.declared.apply.Edit.TheVariants.{Remove}
use Rattle.sorted_pages.specs.Changes.{with_change}
use Rattle.sorted_pages.specs.Ranges.{first_within}
use Rattle.filing_model.specs.Common.Text.{Text, text_cmp}
use Rattle.filing_model.specs.Common.TextMap.{get, remove}
use Rattle.filing_model.proofs.Common.TextMaps.{get-from_entries}
use Rattle.text_map.proofs.NamedLists.{name_cmp, first_named}
use Rattle.text_map.proofs.MapsOfChanges.{sorted_with_changes}
use Rattle.text_map.proofs.TakenEntries.{named_so, left_map}
use Rattle.text_map.proofs.text_pages.TextPages.take.Goals as goal

pub invariant_of-result-in-Some : goal.invariant_of-result-in-Some
invariant_of-result-in-Some g c =
    let taken = subst (λ o. IfSome o (λ (e : Text × g.row.V.Denot). (Some e ≡ first_within (λ n. text_cmp n.0 c.of.result) c.self.inside.pages)
    × (c.take-pages.result.0 ≡ with_change name_cmp (Remove e) c.self.inside.pages))) c.in-Some.is c.take-pages.ensures.some in
    subst (λ es. T (is_sorted text_cmp es)) (sym taken.1) (sorted_with_changes (Remove c.in-Some.named ∷ []) c.self.inside.pages c.self.invariant tt)

pub returns-in-Some-clause-some : goal.returns-in-Some-clause-some
returns-in-Some-clause-some g c =
    let taken = subst (λ o. IfSome o (λ (e : Text × g.row.V.Denot). (Some e ≡ first_within (λ n. text_cmp n.0 c.of.result) c.self.inside.pages)
    × (c.take-pages.result.0 ≡ with_change name_cmp (Remove e) c.self.inside.pages))) c.in-Some.is c.take-pages.ensures.some in
    let name = c.args.name.now in
    let there : Some c.in-Some.named ≡ option_map (λ v. (name, v)) (get c.args.self name) =
    taken.0 ∙ ap (λ t. first_within (λ n. text_cmp n.0 t) c.self.inside.pages) c.of.ensures ∙ first_named name c.self.inside.pages
    ∙ ap (option_map (λ v. (name, v))) (sym (get-from_entries c.self.inside.pages name) ∙ ap (λ m. get m name) c.self.view_is) in (
      there,
      left_map name c.in-Some.named c.self.inside.pages c.take-pages.result.0 c.self.invariant taken.1 (named_so name c.in-Some.named _ there).0
          ∙ ap (λ m. remove m name) c.self.view_is,
    )
