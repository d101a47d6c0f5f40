-- The greatest number of a list that is moved about, and of one of those that tie.
use Rattle.std.proofs.Common.{◌≡◌, ◌∙◌, ap, refl, ℕ, suc, ◌+◌, ◌≤◌, max, arith, le_antisymm, le_refl, Bool, true, false, cond, List, []}
use Rattle.std.proofs.Common.{◌∷◌, Ordering, is_eq, IsPermutation}
use Rattle.std.specs.Cmp.{IsStrictWeakOrder}
use Rattle.std.specs.List.{AllByRecursion, dedup, dedup_from}
use Rattle.std.specs.List.Sorted.{IsSortedBy}
use Rattle.std.proofs.lemmas.List.Elements.{All-from_recursion, recursion_from_All}
use Rattle.std.proofs.lemmas.List.Sorted.{All-permutation, IsPermutation-sym, sorted_far}
use Rattle.sorted_pages.specs.Pages.{greatest}
use Rattle.sorted_pages.specs.Ranges.{within}

least : (n : ℕ) → n ≡ max 0 n
least n = omega arith

module _ {E : Type 0} (f : E → ℕ) where
  -- ---- moved about

  all_upto : (es : List E) (n : ℕ) → greatest f es ≤ n → AllByRecursion (λ e. f e ≤ n) es
  all_upto [] n h = tt
  all_upto (e ∷ es) n h = (omega (arith, h), all_upto es n (omega (arith, h)))

  greatest_upto : (es : List E) (n : ℕ) → AllByRecursion (λ e. f e ≤ n) es → greatest f es ≤ n
  greatest_upto [] n h = omega arith
  greatest_upto (e ∷ es) n h =
      let first = h.0 in
      let rest = greatest_upto es n h.1 in
      omega (arith, first, rest)

  moved_upto : (xs ys : List E) → IsPermutation xs ys → greatest f ys ≤ greatest f xs
  moved_upto xs ys p =
      let n = greatest f xs in
      greatest_upto ys n (recursion_from_All (λ e. f e ≤ n) ys
      (All-permutation (λ e. f e ≤ n) xs ys p (All-from_recursion (λ e. f e ≤ n) xs (all_upto xs n (le_refl n)))))

  pub greatest_moved : (xs ys : List E) → IsPermutation xs ys → greatest f ys ≡ greatest f xs
  greatest_moved xs ys p = le_antisymm (moved_upto xs ys p) (moved_upto ys xs (IsPermutation-sym xs ys p))

  -- ---- in a range

  -- the number of what is in a range
  abbrev pub counted : (E → Ordering) → E → ℕ
  counted side e = cond (is_eq (side e)) (f e) 0

  pub greatest_counted : (side : E → Ordering) (es : List E) → greatest f (within side es) ≡ greatest (counted side) es
  greatest_counted side [] = refl
  greatest_counted side (e ∷ es) =
      elim (is_eq (side e)) as (λ b. greatest f (cond b (e ∷ within side es) (within side es)) ≡ max (cond b (f e) 0) (greatest (counted side) es)) [
        | true ↦ ap (max (f e)) (greatest_counted side es)
        | false ↦ greatest_counted side es ∙ least (greatest (counted side) es)
      ]

  -- ---- one of those that tie

  -- those that tie and come later have no greater number
  module _ (lt : E → E → Bool) (o : IsStrictWeakOrder lt) (same : E → E → Bool)
      (falls : (x k : E) → same x k ≡ true → lt x k ≡ false → f x ≤ f k) where
    none_less : (x : E) (xs : List E) → IsSortedBy lt (x ∷ xs) → AllByRecursion (λ y. lt y x ≡ false) xs
    none_less x xs h =
        recursion_from_All (λ y. lt y x ≡ false) xs (λ k d inside. sorted_far lt o (x ∷ xs) h 0 (suc k) d (omega arith) (omega (arith, inside)))

    next_sorted : (x : E) (xs : List E) → IsSortedBy lt (x ∷ xs) → IsSortedBy lt xs
    next_sorted x xs h k d low high =
        let next : suc k + 1 ≡ suc (k + 1) = omega arith in
        rw next at (h (suc k) d (omega arith) (omega arith))

    dropped : (k x m : ℕ) → x ≤ k → max k m ≡ max k (max x m)
    dropped k x m h = omega (arith, h)

    greatest_from : (k : E) (es : List E) → AllByRecursion (λ y. lt y k ≡ false) es → IsSortedBy lt es
        → greatest f (dedup_from same k es) ≡ greatest f (k ∷ es)
    greatest_from k [] above sorted = refl
    greatest_from k (x ∷ xs) above sorted =
        elim (same x k) as (λ b. same x k ≡ b → greatest f (cond b (dedup_from same k xs) (k ∷ dedup_from same x xs)) ≡ greatest f (k ∷ x ∷ xs)) [
          | true ↦ λ t.
              greatest_from k xs above.1 (next_sorted x xs sorted)
              ∙ dropped (f k) (f x) (greatest f xs) (falls x k t above.0)
          | false ↦ λ _. ap (max (f k)) (greatest_from x xs (none_less x xs sorted) (next_sorted x xs sorted))
        ] refl

    pub greatest_deduped : (es : List E) → IsSortedBy lt es → greatest f (dedup same es) ≡ greatest f es
    greatest_deduped [] sorted = refl
    greatest_deduped (e ∷ es) sorted = greatest_from e es (none_less e es sorted) (next_sorted e es sorted)
