-- Stamps that were sorted, one of those that tie.
use Rattle.std.proofs.Common.{◌≡◌, sym, subst, refl, T, List, [], ◌∷◌, Ordering, Less, is_lt, Result, Ok, Err, IfOk}
use Rattle.std.specs.List.{AllByRecursion, dedup}
use Rattle.std.specs.List.Sorted.{IsSorted, IsStrictlySortedBy}
use Rattle.std.specs.Ordering.{eq_by_cmp}
use Rattle.std.proofs.lemmas.List.Kept.{IsStrictlySortedBy-dedup}
use Rattle.sorted_pages.specs.Sorted.{IsRising, is_below}
use Rattle.filing_model.proofs.Common.Tests.{both_hold}
use Rattle.filing_stamps.specs.Stamps.{Stamp, stamp_cmp}
use Rattle.filing_stamps.specs.StampOrders.{stamp_cmp-total}

module _ {E : Type 0} (R : E → E → Ordering) where
  below : (x : E) (es : List E) → AllByRecursion (λ y. R x y ≡ Less) es → T (is_below R x es)
  below x [] h = tt
  below x (e ∷ es) h = both_hold _ _ (subst (λ r. T (is_lt r)) (sym h.0) tt) (below x es h.1)

  rising_from_sorted : (es : List E) → IsStrictlySortedBy R es → IsRising R es
  unfolding IsStrictlySortedBy
  rising_from_sorted [] h = tt
  rising_from_sorted (e ∷ es) h = both_hold _ _ (below e es h.0) (rising_from_sorted es h.1)

pub sorted_stamps_rise : (stamps : List Stamp) → IsSorted stamp_cmp stamps → IsRising stamp_cmp (dedup (eq_by_cmp stamp_cmp) stamps)
sorted_stamps_rise stamps h =
    rising_from_sorted stamp_cmp (dedup (eq_by_cmp stamp_cmp) stamps) (IsStrictlySortedBy-dedup stamp_cmp-total (λ x y. refl) stamps h)

pub if_ok : {A F : Type 0} {P Q : A → Type 0} → ((x : A) → P x → Q x) → (r : Result A F) → IfOk r P → IfOk r Q
if_ok f (Ok x) h = f x h
if_ok f (Err e) h = tt
