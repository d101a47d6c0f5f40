-- Elements with keys that differ: a look-up finds one in whatever order they stand, and once sorted their keys rise.
use Rattle.std.proofs.Common.{◌≡◌, ◌∙◌, ap, sym, subst, refl, suc, ◌+◌, arith, Bool, true, false, cond, T, List, [], ◌∷◌, map, Option, None}
use Rattle.std.proofs.Common.{Some, is_some, IsPermutation, Ordering, Less, is_eq, is_lt}
use Rattle.std.specs.Ordering.{eq_by_cmp}
use Rattle.std.specs.Cmp.{IsTotalOrder, Equal-is, eq_by_cmp_equiv}
use Rattle.std.specs.List.{AllByRecursion, IsDistinct}
use Rattle.std.specs.List.Sorted.{IsSortedBy}
use Rattle.std.specs.FinMap.Entries.{find, below_all, is_sorted, find_tied, is_some-find}
use Rattle.std.proofs.lemmas.List.Elements.{All-from_recursion, recursion_from_All}
use Rattle.std.proofs.lemmas.List.Sorted.{IsPermutation-map, All-permutation, list_any-IsPermutation}
use Rattle.filing_model.proofs.Common.Tests.{both_hold, first_holds, second_holds, less_from_is_lt, less_from_not_greater, none_from_not_is_some}

module _ {A K X : Type 0} (R : K → K → Ordering) (entry : A → K × X) where
  -- whether two have one key
  abbrev pub ties : A → A → Bool
  ties a b = eq_by_cmp R (entry a).0 (entry b).0

  abbrev pub found : K → List A → Option X
  found q xs = find R q (map entry xs)

  -- a key that none has is not found
  pub found_nowhere : (k : K) (xs : List A) → AllByRecursion (λ x. eq_by_cmp R k (entry x).0 ≡ false) xs → found k xs ≡ None
  found_nowhere k [] h = refl
  found_nowhere k (x ∷ xs) h = ap (λ b. cond b (Some (entry x).1) (found k xs)) h.0 ∙ found_nowhere k xs h.1

  -- keys that rise differ
  pub apart_below : (k : K) (xs : List A) → T (below_all R k (map entry xs)) → AllByRecursion (λ x. eq_by_cmp R k (entry x).0 ≡ false) xs
  apart_below k [] h = tt
  apart_below k (x ∷ xs) h = (ap is_eq (less_from_is_lt _ (first_holds _ _ h)), apart_below k xs (second_holds _ _ h))

  pub IsDistinct-rising : (xs : List A) → T (is_sorted R (map entry xs)) → IsDistinct ties xs
  unfolding IsDistinct
  IsDistinct-rising [] h = tt
  IsDistinct-rising (x ∷ xs) h = (apart_below (entry x).0 xs (first_holds _ _ h), IsDistinct-rising xs (second_holds _ _ h))

  module _ (o : IsTotalOrder R) where
    -- ---- in whatever order

    abbrev Leads : List A → A → Type 0
    Leads xs f = found (entry f).0 xs ≡ Some (entry f).1

    later_lead : (x : A) (xs fs : List A) → AllByRecursion (λ f. ties x f ≡ false) fs → AllByRecursion (Leads xs) fs → AllByRecursion (Leads (x ∷ xs)) fs
    later_lead x xs [] n h = tt
    later_lead x xs (f ∷ fs) n h =
        (ap (λ b. cond b (Some (entry x).1) (found (entry f).0 xs)) ((eq_by_cmp_equiv o).symm (entry f).0 (entry x).0 ∙ n.0) ∙ h.0, later_lead x xs fs n.1 h.1)

    all_lead : (xs : List A) → IsDistinct ties xs → AllByRecursion (Leads xs) xs
    unfolding IsDistinct
    all_lead [] d = tt
    all_lead (x ∷ xs) d =
        (ap (λ b. cond b (Some (entry x).1) (found (entry x).0 xs)) ((eq_by_cmp_equiv o).refl (entry x).0), later_lead x xs xs d.0 (all_lead xs d.1))

    found_alike : (xs fs : List A) (q : K) → AllByRecursion (Leads xs) fs → is_some (found q xs) ≡ is_some (found q fs) → found q xs ≡ found q fs
    found_alike xs [] q h same = none_from_not_is_some _ same
    found_alike xs (f ∷ fs) q h same =
        elim (eq_by_cmp R q (entry f).0) as (λ b. eq_by_cmp R q (entry f).0 ≡ b → is_some (found q xs) ≡ is_some (cond b (Some (entry f).1) (found q fs))
        → found q xs ≡ cond b (Some (entry f).1) (found q fs)) [
          | true ↦ λ t _. sym (find_tied R o q (entry f).0 ((Equal-is (R q (entry f).0)).0 t) (map entry xs)) ∙ h.0
          | false ↦ λ _ rest. found_alike xs fs q h.1 rest
        ] refl same

    pub found-IsPermutation : (xs ys : List A) → IsPermutation xs ys → IsDistinct ties xs → (q : K) → found q xs ≡ found q ys
    found-IsPermutation xs ys p d q = found_alike xs ys q
        (recursion_from_All (Leads xs) ys (All-permutation (Leads xs) xs ys p (All-from_recursion (Leads xs) xs (all_lead xs d))))
        (is_some-find R q (map entry xs)
        ∙ list_any-IsPermutation (eq_by_cmp R q) (map (λ e. e.0) (map entry xs)) (map (λ e. e.0) (map entry ys))
        (IsPermutation-map (λ e. e.0) (map entry xs) (map entry ys) (IsPermutation-map entry xs ys p))
        ∙ sym (is_some-find R q (map entry ys)))

    -- nor one that ties with such a key
    pub tied_nowhere : (q k : K) (xs : List A) → eq_by_cmp R q k ≡ true → AllByRecursion (λ x. eq_by_cmp R k (entry x).0 ≡ false) xs → found q xs ≡ None
    tied_nowhere q k xs t h = sym (find_tied R o q k ((Equal-is (R q k)).0 t) (map entry xs)) ∙ found_nowhere k xs h

    -- ---- sorted

    below_less : (x y : K) (es : List (K × X)) → R x y ≡ Less → T (below_all R y es) → T (below_all R x es)
    below_less x y [] l h = tt
    below_less x y (e ∷ es) l h =
        both_hold _ _ (subst (λ r. T (is_lt r)) (sym (o.trans x y e.0 l (less_from_is_lt _ (first_holds _ _ h)))) tt) (below_less x y es l (second_holds _ _ h))

    abbrev is_before : A → A → Bool
    is_before a b = is_lt (R (entry a).0 (entry b).0)

    next_in_order : (x : A) (xs : List A) → IsSortedBy is_before (x ∷ xs) → IsSortedBy is_before xs
    next_in_order x xs h k d low high =
        let next : suc k + 1 ≡ suc (k + 1) = omega arith in
        rw next at (h (suc k) d (omega arith) (omega arith))

    -- keys that were sorted and differ rise
    pub sorted_rise : (xs : List A) → IsSortedBy is_before xs → IsDistinct ties xs → T (is_sorted R (map entry xs))
    unfolding IsDistinct
    sorted_rise [] s d = tt
    sorted_rise (x ∷ []) s d = tt
    sorted_rise (x ∷ y ∷ ys) s d =
        let rest = sorted_rise (y ∷ ys) (next_in_order x (y ∷ ys) s) d.1 in
        let l : R (entry x).0 (entry y).0 ≡ Less =
        less_from_not_greater _ (ap is_lt (sym (o.antisymm (entry y).0 (entry x).0)) ∙ s 0 x (omega arith) (omega arith)) d.0.0 in
        both_hold _ _ (both_hold _ _ (subst (λ r. T (is_lt r)) (sym l) tt) (below_less (entry x).0 (entry y).0 (map entry ys) l (first_holds _ _ rest))) rest
