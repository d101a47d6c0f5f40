-- Lemmas on finite maps from texts that are made of lists.
use Rattle.std.proofs.Common.{◌≡◌, true, false, cond, T, List, [], ◌∷◌, map, Some, is_some, IsPermutation, Less, Equal, Greater, is_eq, is_lt, ap, sym, subst, ◌∙◌, refl, true≢false, None}
use Rattle.std.specs.FinMap.Entries.{by_order, below_all, put, find, is_sorted, same_entries, is_some-find}
use Rattle.std.specs.Prelude.{⊤}
use Rattle.std.specs.List.{list_any, AllByRecursion}
use Rattle.std.proofs.lemmas.Bool.{or_parts, or_from}
use Rattle.std.proofs.lemmas.Cmp.{nat_list_cmp_total}
use Rattle.std.proofs.lemmas.List.Elements.{All-from_recursion, recursion_from_All}
use Rattle.std.proofs.lemmas.List.Sorted.{IsPermutation-refl, IsPermutation-sym, IsPermutation-trans}
use Rattle.std.proofs.lemmas.List.Sorted.{IsPermutation-cons, IsPermutation-middle, IsPermutation-map}
use Rattle.std.proofs.lemmas.List.Sorted.{All-permutation, list_any-IsPermutation}
use Rattle.filing_model.specs.Common.Text.{Text, text_cmp, text_eq, has_repeats}
use Rattle.filing_model.specs.Common.TextMap.{from_entries}
use Rattle.filing_model.proofs.Common.TextMaps.{get-from_entries}
use Rattle.filing_model.proofs.Common.Texts.{text_cmp-Equal, text_eq-refl, text_eq-sym, text_decides, text_same}
use Rattle.filing_model.proofs.Common.Tests.{both_hold, first_holds, second_holds, less_from_is_lt, less_from_not_greater, none_from_not_is_some}

module _ {X : Type 0} where
  abbrev pub names : List (Text × X) → List Text
  names es = map (λ e. e.0) es

  -- entries in order are the map's own
  pub from_entries-sorted : (es : List (Text × X)) → T (is_sorted text_cmp es) → (from_entries es).entries ≡ es
  from_entries-sorted es h = same_entries text_cmp nat_list_cmp_total text_cmp-Equal _ es (from_entries es).sorted h (get-from_entries es)

  -- a text below all names is none of them
  pub below_is_not_found : (q : Text) (es : List (Text × X)) → T (below_all text_cmp q es) → find text_cmp q es ≡ None
  below_is_not_found q [] h = refl
  below_is_not_found q (e ∷ es) h =
      ap (λ o. cond (is_eq o) (Some e.1) (find text_cmp q es)) (less_from_is_lt (text_cmp q e.0) (first_holds _ _ h)) ∙ below_is_not_found q es (second_holds _ _ h)

  pub tied_is_not_found : (q x : Text) (es : List (Text × X)) → text_eq q x ≡ true → T (below_all text_cmp x es) → find text_cmp q es ≡ None
  tied_is_not_found q x es same h = subst (λ y. find text_cmp y es ≡ None) (sym (text_same q x same)) (below_is_not_found x es h)

  -- ---- entries that change places

  -- the entry is the first of its name in es
  abbrev Leads : List (Text × X) → Text × X → Type 0
  Leads es f = find text_cmp f.0 es ≡ Some f.1

  later_lead : (e : Text × X) (es fs : List (Text × X)) → list_any (text_eq e.0) (names fs) ≡ false → AllByRecursion (Leads es) fs → AllByRecursion (Leads (e ∷ es)) fs
  later_lead e es [] n h = tt
  later_lead e es (f ∷ fs) n h =
      let parts = or_parts (text_eq e.0 f.0) (list_any (text_eq e.0) (names fs)) n in
      (ap (λ b. cond b (Some e.1) (find text_cmp f.0 es)) (text_eq-sym f.0 e.0 ∙ parts.0) ∙ h.0, later_lead e es fs parts.1 h.1)

  all_lead : (es : List (Text × X)) → has_repeats (names es) ≡ false → AllByRecursion (Leads es) es
  all_lead [] n = tt
  all_lead (e ∷ es) n =
      let parts = or_parts (list_any (text_eq e.0) (names es)) (has_repeats (names es)) n in
      (ap (λ b. cond b (Some e.1) (find text_cmp e.0 es)) (text_eq-refl e.0), later_lead e es es parts.0 (all_lead es parts.1))

  found_alike : (es fs : List (Text × X)) (q : Text) → AllByRecursion (Leads es) fs → is_some (find text_cmp q es) ≡ is_some (find text_cmp q fs) → find text_cmp q es ≡ find text_cmp q fs
  found_alike es [] q h same = none_from_not_is_some _ same
  found_alike es (f ∷ fs) q h same =
      elim (text_eq q f.0) as (λ b. text_eq q f.0 ≡ b → is_some (find text_cmp q es) ≡ is_some (cond b (Some f.1) (find text_cmp q fs)) → find text_cmp q es ≡ cond b (Some f.1) (find text_cmp q fs)) [
        | true ↦ λ t _. ap (λ k. find text_cmp k es) ((text_decides q f.0).0 t) ∙ h.0
        | false ↦ λ _ same'. found_alike es fs q h.1 same'
      ] refl same

  -- names that change places are found as before, where none stands twice
  pub find-IsPermutation : (es fs : List (Text × X)) → IsPermutation es fs → has_repeats (names es) ≡ false → (q : Text) → find text_cmp q es ≡ find text_cmp q fs
  find-IsPermutation es fs p n q = found_alike es fs q
      (recursion_from_All (Leads es) fs (All-permutation (Leads es) es fs p (All-from_recursion (Leads es) es (all_lead es n))))
      (is_some-find text_cmp q es ∙ list_any-IsPermutation (text_eq q) (names es) (names fs) (IsPermutation-map (λ e. e.0) es fs p) ∙ sym (is_some-find text_cmp q fs))

  pub from_entries-IsPermutation : (es fs : List (Text × X)) → IsPermutation es fs → has_repeats (names es) ≡ false → (from_entries es).entries ≡ (from_entries fs).entries
  from_entries-IsPermutation es fs p n = same_entries text_cmp nat_list_cmp_total text_cmp-Equal _ _ (from_entries es).sorted (from_entries fs).sorted
      (λ q. get-from_entries es q ∙ find-IsPermutation es fs p n q ∙ sym (get-from_entries fs q))

  -- ---- entries in order

  no_tie : (x : Text) (es : List (Text × X)) → T (below_all text_cmp x es) → list_any (text_eq x) (names es) ≡ false
  no_tie x [] h = refl
  no_tie x (e ∷ es) h = or_from (text_eq x e.0) _ (ap is_eq (less_from_is_lt _ (first_holds _ _ h))) (no_tie x es (second_holds _ _ h))

  pub no_repeats_from_sorted : (es : List (Text × X)) → T (is_sorted text_cmp es) → has_repeats (names es) ≡ false
  no_repeats_from_sorted [] h = refl
  no_repeats_from_sorted (e ∷ es) h = or_from _ _ (no_tie e.0 es (first_holds _ _ h)) (no_repeats_from_sorted es (second_holds _ _ h))

  pub below_from_less : (x y : Text) (es : List (Text × X)) → text_cmp x y ≡ Less → T (below_all text_cmp y es) → T (below_all text_cmp x es)
  below_from_less x y [] l h = tt
  below_from_less x y (e ∷ es) l h =
      both_hold _ _ (subst (λ o. T (is_lt o)) (sym (nat_list_cmp_total.trans x y e.0 l (less_from_is_lt _ (first_holds _ _ h)))) tt) (below_from_less x y es l (second_holds _ _ h))

  -- no name is less than the one before it
  abbrev pub Rises : List (Text × X) → Type 0
  Rises [] = ⊤
  Rises (e ∷ []) = ⊤
  Rises (e ∷ f ∷ es) = (is_lt (text_cmp f.0 e.0) ≡ false) × Rises (f ∷ es)

  -- names that do not fall and differ strictly rise
  pub sorted_from_rises : (es : List (Text × X)) → Rises es → has_repeats (names es) ≡ false → T (is_sorted text_cmp es)
  sorted_from_rises [] r n = tt
  sorted_from_rises (e ∷ []) r n = tt
  sorted_from_rises (e ∷ f ∷ es) r n =
      let parts = or_parts (list_any (text_eq e.0) (names (f ∷ es))) (has_repeats (names (f ∷ es))) n in
      let apart = or_parts (text_eq e.0 f.0) (list_any (text_eq e.0) (names es)) parts.0 in
      let rest = sorted_from_rises (f ∷ es) r.1 parts.1 in
      let l : text_cmp e.0 f.0 ≡ Less = less_from_not_greater _ (ap is_lt (sym (nat_list_cmp_total.antisymm f.0 e.0)) ∙ r.0) apart.0 in
      both_hold _ _ (both_hold _ _ (subst (λ o. T (is_lt o)) (sym l) tt) (below_from_less e.0 f.0 es l (first_holds _ _ rest))) rest

  -- ---- a map's entries are those of its list in another order

  put_moves : (e : Text × X) (es : List (Text × X)) → list_any (text_eq e.0) (names es) ≡ false → IsPermutation (e ∷ es) (put text_cmp e.0 e.1 es)
  put_moves e [] n = IsPermutation-refl _
  put_moves e (f ∷ es) n =
      let parts = or_parts (text_eq e.0 f.0) (list_any (text_eq e.0) (names es)) n in
      elim (text_cmp e.0 f.0) as (λ o. is_eq o ≡ false → IsPermutation (e ∷ f ∷ es) (by_order o (e ∷ f ∷ es) ((f.0, e.1) ∷ es) (f ∷ put text_cmp e.0 e.1 es))) [
        | Less ↦ λ _. IsPermutation-refl _
        | Equal ↦ λ tie. absurd (true≢false tie)
        | Greater ↦ λ _. IsPermutation-trans _ _ _ (IsPermutation-sym _ _ (IsPermutation-middle (f ∷ []) e es)) (IsPermutation-cons f _ _ (put_moves e es parts.1))
      ] parts.0

  pub IsPermutation-from_entries : (es : List (Text × X)) → has_repeats (names es) ≡ false → IsPermutation es (from_entries es).entries
  IsPermutation-from_entries [] n = IsPermutation-refl _
  IsPermutation-from_entries (e ∷ es) n =
      let parts = or_parts (list_any (text_eq e.0) (names es)) (has_repeats (names es)) n in
      let rest = IsPermutation-from_entries es parts.1 in
      let apart = sym (list_any-IsPermutation (text_eq e.0) (names es) (names (from_entries es).entries) (IsPermutation-map (λ f. f.0) _ _ rest)) ∙ parts.0 in
      IsPermutation-trans _ _ _ (IsPermutation-cons e _ _ rest) (put_moves e (from_entries es).entries apart)
