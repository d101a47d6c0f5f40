-- An index after fact changes that is kept beside others.
use Rattle.std.proofs.Common.{◌≡◌, subst, ℕ, List, Option, IfOk, Result, Ok}
use Rattle.filing_model.specs.Common.TextMap.{TextMap}
use Rattle.filing_model.specs.Oim.Facts.{Fact}
use Rattle.filing_index.specs.Index.{IndexEntry, IsIndex}
use Rattle.filing_facts.specs.FactChanges.{FactChange, with_changes}
use Rattle.filing_index.specs.ChangedIndexes.{IsIndexAfter, fact_changes_in}

pub order_after : {E : Type 0} (hash_of : Fact → ℕ) (changes : TextMap (Option Fact)) (facts after : TextMap Fact) (fact_changes : List FactChange)
    (first before next last : List IndexEntry) (made : Result (List IndexEntry) E)
    → IfOk made (IsIndexAfter hash_of fact_changes before) → made ≡ Ok next → first ≡ before → next ≡ last
    → fact_changes ≡ fact_changes_in changes.entries facts → with_changes changes.entries facts ≡ after → IsIndex hash_of facts first
    → IsIndex hash_of after last
order_after hash_of changes facts after fact_changes first before next last made is made_is first_is last_is are after_is indexed =
    subst (λ m. IsIndex hash_of m last) after_is
    (subst (IsIndex hash_of (with_changes changes.entries facts)) last_is
    (subst (λ r. IfOk r (IsIndexAfter hash_of fact_changes before)) made_is is changes facts are (subst (IsIndex hash_of facts) first_is indexed)))
