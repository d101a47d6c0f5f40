use Rattle.std.proofs.Common.{IfOk, ◌≡◌, ◌∙◌, ap, sym, subst, T, List, map}
use Rattle.std.proofs.lemmas.Result.{IfOk-weaker}
use Rattle.std.specs.FinMap.Entries.{is_sorted}
use Rattle.sorted_pages.specs.declared.apply.Edit.{Edit}
use Rattle.sorted_pages.specs.Changes.{entry_of}
use Rattle.text_map.specs.MapChanges.{map_with_changes}
use Rattle.filing_model.specs.Common.Text.{Text, text_cmp}
use Rattle.filing_model.specs.Oim.Facts.{Fact}
use Rattle.filing_index.specs.ChangedIndexes.{id_changes}
use Rattle.filing_index.proofs.ChangedFacts.{ids_of_moves_rise}
use Rattle.filing_index.proofs.indexing.ids_into_after.Goals as goal

pub into_after-next-requires : goal.into_after-next-requires
into_after-next-requires c =
    let made : c.in_ok-changes.changes.items ≡ id_changes c.args.fact_changes.now =
    subst (λ r. IfOk r (λ v. v.items ≡ id_changes c.args.fact_changes.now)) c.in_ok-changes.ensures.0 c.changes_by_id.ensures in
    subst (λ (cs : List (Edit (Text × Fact))). T (is_sorted text_cmp (map entry_of cs)))
    (sym (c.deref.ensures.value ∙ made ∙ ap id_changes c.requires.1.1)) (ids_of_moves_rise c.requires.1.0 c.requires.0)

pub returns : goal.returns
returns c =
    let made : c.in_ok-changes.changes.items ≡ id_changes c.args.fact_changes.now =
    subst (λ r. IfOk r (λ v. v.items ≡ id_changes c.args.fact_changes.now)) c.in_ok-changes.ensures.0 c.changes_by_id.ensures in
    IfOk-weaker c.into_after-next.result _ _
    (λ p same. same ∙ (λ i. map_with_changes ((c.deref.ensures.value ∙ made) i) (sym c.in_ok-changes.ensures.1 i)))
    c.into_after-next.ensures
