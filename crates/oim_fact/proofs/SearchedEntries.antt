-- What a binary search answers of entries whose keys strictly rise: what a look-up in them finds.
use Rattle.std.proofs.Common.{◌≡◌, ◌∙◌, ap, sym, refl, ℕ, zero, suc, ◌+◌, ◌<◌, arith, false, cond, T, List, []}
use Rattle.std.proofs.Common.{◌∷◌, map, length, get_or, Some, None, Result, Ok, Err, is_ok, is_some, MatchResult}
use Rattle.std.proofs.Common.{Ordering, Less, Equal, Greater, is_eq, is_lt, inl, inr}
use Rattle.std.specs.Cmp.{IsTotalOrder, tied_back}
use Rattle.std.specs.Ordering.{ordering_reverse}
use Rattle.std.specs.List.Sorted.{IsSortedBy, IsBinarySearchResult, IsSearchInRange}
use Rattle.std.specs.FinMap.Entries.{find, below_all, is_sorted}
use Rattle.std.proofs.lemmas.List.Sorted.{searchable_from_sorted}
use Rattle.std.proofs.lemmas.Bool.{cases_lt}
use Rattle.filing_model.proofs.Common.Tests.{first_holds, second_holds, less_from_is_lt}

module _ {P K X : Type 0} (R : K → K → Ordering) (o : IsTotalOrder R) (entry : P → K × X) where
  abbrev entries : List P → List (K × X)
  entries ps = map entry ps

  below_at : (x : K) (ps : List P) (i : ℕ) (d : P) → T (below_all R x (entries ps)) → i < length ps → R x (entry (get_or ps i d)).0 ≡ Less
  below_at x [] i d h low = absurd (omega arith)
  below_at x (p ∷ ps) zero d h low = less_from_is_lt _ (first_holds _ _ h)
  below_at x (p ∷ ps) (suc i) d h low = below_at x ps i d (second_holds _ _ h) (omega arith)

  turned : (x y : K) → R x y ≡ Less → R y x ≡ Greater
  turned x y l = o.antisymm y x ∙ ap ordering_reverse l

  -- no element is less than the one before it
  pub IsSortedBy-entries : (ps : List P) → T (is_sorted R (entries ps)) → IsSortedBy (λ a b. is_lt (R (entry a).0 (entry b).0)) ps
  IsSortedBy-entries [] h k d low high = absurd (omega arith)
  IsSortedBy-entries (p ∷ ps) h zero d low high = ap is_lt (turned _ _ (below_at (entry p).0 ps 0 d (first_holds _ _ h) (omega arith)))
  IsSortedBy-entries (p ∷ ps) h (suc k) d low high =
      let next : suc k + 1 ≡ suc (k + 1) = omega arith in
      rw next (IsSortedBy-entries ps (second_holds _ _ h) k d (omega arith) (omega arith))

  module _ (q : K) where
    found_at : (ps : List P) (i : ℕ) (d : P) → T (is_sorted R (entries ps)) → i < length ps
        → R (entry (get_or ps i d)).0 q ≡ Equal → find R q (entries ps) ≡ Some (entry (get_or ps i d)).1
    found_at [] i d h low e = absurd (omega arith)
    found_at (p ∷ ps) zero d h low e = ap (λ r. cond (is_eq r) (Some (entry p).1) (find R q (entries ps))) (tied_back o _ _ e)
    found_at (p ∷ ps) (suc i) d h low e =
        let apart : R q (entry p).0 ≡ Greater =
        sym (o.congr _ q (entry p).0 e)
        ∙ turned _ _ (below_at (entry p).0 ps i d (first_holds _ _ h) (omega arith)) in
        ap (λ r. cond (is_eq r) (Some (entry p).1) (find R q (entries ps))) apart ∙ found_at ps i d (second_holds _ _ h) (omega arith) e

    none_found : (ps : List P) → ((k : ℕ) (d : P) → k < length ps → is_eq (R q (entry (get_or ps k d)).0) ≡ false) → find R q (entries ps) ≡ None
    none_found [] h = refl
    none_found (p ∷ ps) h =
        ap (λ b. cond b (Some (entry p).1) (find R q (entries ps))) (h 0 p (omega arith))
        ∙ none_found ps (λ k d low. h (suc k) d (omega arith))

    pub searched : (ps : List P) (r : Result ℕ ℕ) → T (is_sorted R (entries ps)) → IsSearchInRange r (length ps)
        → IsBinarySearchResult (λ p. R (entry p).0 q) ps r
        → MatchResult r (λ i. (d : P) → find R q (entries ps) ≡ Some (entry (get_or ps i d)).1) (λ i. find R q (entries ps) ≡ None)
    searched ps (Ok i) h range at = λ d. found_at ps i d h range (at d)
    searched ps (Err i) h range split =
        let parts = split (searchable_from_sorted o (λ p. (entry p).0) ps q (IsSortedBy-entries ps h)) in
        none_found ps (λ k d low. elim (cases_lt k i) [
          | inl before ↦ ap is_eq (turned _ _ (parts.0 k d (omega arith) before))
          | inr after ↦ ap is_eq (o.antisymm _ _ ∙ ap ordering_reverse (parts.1 k d after low))
        ])

    pub search_finds : (ps : List P) (r : Result ℕ ℕ) → T (is_sorted R (entries ps)) → IsSearchInRange r (length ps)
        → IsBinarySearchResult (λ p. R (entry p).0 q) ps r → is_ok r ≡ is_some (find R q (entries ps))
    search_finds [] (Ok i) h range result = absurd (omega arith)
    search_finds (p ∷ ps) (Ok i) h range result = sym (ap is_some (searched (p ∷ ps) (Ok i) h range result p))
    search_finds ps (Err i) h range result = sym (ap is_some (searched ps (Err i) h range result))
