-- A fact keeps its hash where only one change is made.
use Rattle.std.proofs.Common.{◌≡◌, ◌∙◌, ap, sym, subst, List, map, IsPermutation, IfOk}
use Rattle.std.proofs.lemmas.Result.{IfOk-weaker}
use Rattle.sorted_pages.specs.declared.apply.Edit.{Edit}
use Rattle.sorted_pages.specs.Sorted.{IsRising}
use Rattle.sorted_pages.specs.Changes.{entry_of, with_changes}
use Rattle.filing_index.specs.Index.{IndexEntry, hashed_cmp, IsIndex}
use Rattle.filing_index.specs.IndexKinds.{hash_in}
use Rattle.filing_facts.specs.FactChanges as fact_change
use Rattle.filing_index.specs.ChangedIndexes.{IsIndexAfter, hashed_changes}
use Rattle.filing_index.proofs.ChangedFacts.{index_after}
use Rattle.filing_index.proofs.indexing.index_into_after.Goals as goal

pub into_after-next-requires : goal.into_after-next-requires
into_after-next-requires c =
    subst (λ (cs : List (Edit IndexEntry)). IsRising hashed_cmp (map entry_of cs)) (sym c.deref.ensures.value)
    (subst (λ r. IfOk r (λ v. IsRising hashed_cmp (map entry_of v.items))) c.in_ok-changes.ensures.0 c.sorted_changes.ensures.rising)

pub returns : goal.returns
returns c =
    let all = hashed_changes (hash_in c.args.kind) c.args.fact_changes.now in
    let sorted : IsPermutation all c.in_ok-changes.changes.items =
    subst (λ r. IfOk r (λ v. IsPermutation all v.items)) c.in_ok-changes.ensures.0 c.sorted_changes.ensures.changes in
    IfOk-weaker c.into_after-next.result (λ p. p ≡ with_changes hashed_cmp c.deref.result.now c.in_ok-changes.index)
    (IsIndexAfter (hash_in c.args.kind) c.args.fact_changes.now c.args.index)
    (λ p same changes facts are is.
    subst (IsIndex (hash_in c.args.kind) (fact_change.with_changes changes.entries facts))
    (sym (same ∙ (λ i. with_changes hashed_cmp (c.deref.ensures.value i) (sym c.in_ok-changes.ensures.1 i))))
    (index_after (hash_in c.args.kind) changes facts c.args.index c.in_ok-changes.changes.items
    (subst (λ (cs : List (Edit IndexEntry)). IsPermutation cs c.in_ok-changes.changes.items)
    (ap (hashed_changes (hash_in c.args.kind)) are) sorted) is))
    c.into_after-next.ensures
