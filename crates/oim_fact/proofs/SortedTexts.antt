-- Texts that were sorted: of those that stand twice, two are neighbours.
use Rattle.std.proofs.Common.{suc, ◌+◌, arith, ◌≡◌, ◌∙◌, ap, sym, subst, refl, Bool, true, false, ◌||◌, T, List, [], ◌∷◌, map, Less, is_lt}
use Rattle.std.proofs.lemmas.Bool.{or_right}
use Rattle.std.specs.List.{list_any}
use Rattle.std.specs.List.Sorted.{IsSortedBy}
use Rattle.std.specs.Cmp.Lexicographic.{nat_list_cmp_total}
use Rattle.std.specs.FinMap.Entries.{is_sorted}
use Rattle.filing_model.specs.Common.Text.{Text, text_cmp, text_eq, has_repeats}
use Rattle.filing_model.proofs.Common.MapsOfLists.{Rises, sorted_from_rises, no_repeats_from_sorted, below_from_less}
use Rattle.filing_model.proofs.Common.Tests.{both_hold, first_holds, less_from_not_greater}
use Rattle.oim_fact.specs.Texts.{names_in, NoneFalls, has_equal_neighbours}

module _ {X : Type 0} where
  -- a name that is not the next one's is below all names that follow
  sorted_more : (d e : Text × X) (es : List (Text × X)) → is_lt (text_cmp e.0 d.0) ≡ false → text_eq d.0 e.0 ≡ false
      → T (is_sorted text_cmp (e ∷ es)) → T (is_sorted text_cmp (d ∷ e ∷ es))
  sorted_more d e es r apart h =
      let l : text_cmp d.0 e.0 ≡ Less = less_from_not_greater _ (ap is_lt (sym (nat_list_cmp_total.antisymm e.0 d.0)) ∙ r) apart in
      both_hold _ _ (both_hold _ _ (subst (λ o. T (is_lt o)) (sym l) tt) (below_from_less d.0 e.0 es l (first_holds _ _ h))) h

  neighbours : (es : List (Text × X)) → Rises es → has_repeats (names_in es) ≡ has_equal_neighbours (names_in es)
  neighbours [] r = refl
  neighbours (d ∷ []) r = refl
  neighbours (d ∷ e ∷ es) r =
      let rest = neighbours (e ∷ es) r.1 in
      elim (text_eq d.0 e.0) as (λ b. text_eq d.0 e.0 ≡ b
      → (b || list_any (text_eq d.0) (names_in es)) || has_repeats (names_in (e ∷ es))
      ≡ b || has_equal_neighbours (names_in (e ∷ es))) [
        | true ↦ λ _. refl
        | false ↦ λ apart.
            elim (has_repeats (names_in (e ∷ es)))
            as (λ b. has_repeats (names_in (e ∷ es)) ≡ b
            → list_any (text_eq d.0) (names_in es) || has_repeats (names_in (e ∷ es))
            ≡ has_equal_neighbours (names_in (e ∷ es))) [
              | true ↦ λ again. ap (λ b. list_any (text_eq d.0) (names_in es) || b) again ∙ or_right _ true refl ∙ sym again ∙ rest
              | false ↦ λ once.
                  sym (ap (λ b. (b || list_any (text_eq d.0) (names_in es)) || has_repeats (names_in (e ∷ es))) apart)
                  ∙ no_repeats_from_sorted (d ∷ e ∷ es) (sorted_more d e es r.0 apart (sorted_from_rises (e ∷ es) r.1 once))
                  ∙ sym once ∙ rest
            ] refl
      ] refl

  pub Rises-names : (es : List (Text × X)) → NoneFalls (names_in es) → Rises es
  Rises-names [] h = tt
  Rises-names (e ∷ []) h = tt
  Rises-names (d ∷ e ∷ es) h = (h.0, Rises-names (e ∷ es) h.1)

  -- of names that do not fall, those that stand twice are neighbours
  pub repeated_are_neighbours : (es : List (Text × X)) → NoneFalls (names_in es) → has_repeats (names_in es) ≡ has_equal_neighbours (names_in es)
  repeated_are_neighbours es h = neighbours es (Rises-names es h)

module _ {P : Type 0} (text : P → Text) where
  next_in_order : (lt : P → P → Bool) (p : P) (ps : List P) → IsSortedBy lt (p ∷ ps) → IsSortedBy lt ps
  next_in_order lt p ps h k d low high =
      let next : suc k + 1 ≡ suc (k + 1) = omega arith in
      rw next at (h (suc k) d (omega arith) (omega arith))

  -- what was sorted by an order that looks at this text first
  pub NoneFalls-sorted : (lt : P → P → Bool) → ((x y : P) → lt x y ≡ false → is_lt (text_cmp (text x) (text y)) ≡ false)
      → (ps : List P) → IsSortedBy lt ps → NoneFalls (map text ps)
  NoneFalls-sorted lt first [] h = tt
  NoneFalls-sorted lt first (p ∷ []) h = tt
  NoneFalls-sorted lt first (p ∷ q ∷ ps) h = (
    first q p (h 0 p (omega arith) (omega arith)),
    NoneFalls-sorted lt first (q ∷ ps) (next_in_order lt p (q ∷ ps) h),
  )
