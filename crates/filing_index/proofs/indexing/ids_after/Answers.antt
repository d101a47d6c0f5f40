use Rattle.std.proofs.Common.{◌∙◌, ap, sym, subst, T, List, map}
use Rattle.std.proofs.lemmas.Result.{IfOk-weaker}
use Rattle.std.specs.FinMap.Entries.{is_sorted}
use Rattle.sorted_pages.specs.declared.apply.Edit.{Edit}
use Rattle.sorted_pages.specs.Changes.{entry_of}
use Rattle.text_map.specs.MapChanges.{map_with_changes}
use Rattle.filing_model.specs.Common.Text.{Text, text_cmp}
use Rattle.filing_model.specs.Oim.Facts.{Fact}
use Rattle.filing_index.specs.ChangedIndexes.{id_changes}
use Rattle.filing_index.proofs.ChangedFacts.{ids_of_moves_rise}
use Rattle.filing_index.proofs.indexing.ids_after.Goals as goal

pub after-next-requires : goal.after-next-requires
after-next-requires c =
    subst (λ (cs : List (Edit (Text × Fact))). T (is_sorted text_cmp (map entry_of cs)))
    (sym (c.deref.ensures.value ∙ c.in_ok-changes.ensures ∙ ap id_changes c.requires.1.1)) (ids_of_moves_rise c.requires.1.0 c.requires.0)

pub returns : goal.returns
returns c =
    IfOk-weaker c.after-next.result _ _
    (λ p same. same ∙ ap (λ (cs : List (Edit (Text × Fact))). map_with_changes cs c.args.by_id.now) (c.deref.ensures.value ∙ c.in_ok-changes.ensures))
    c.after-next.ensures
