-- The entries from the first on that does not stand before a range, and those up to the first that stands past it.
use Rattle.std.proofs.Common.{◌≡◌, ◌∙◌, ap, sym, subst, refl, Bool, true, false, cond, not, ◌&&◌, ◌||◌, T, List, []}
use Rattle.std.proofs.Common.{◌∷◌, ◌++◌, append-nil, Ordering, Less, Equal, Greater, is_lt, is_eq}
use Rattle.std.specs.List.{list_all, flat_map}
use Rattle.std.specs.Ordering.{is_gt}
use Rattle.sorted_pages.specs.Sorted.{IsRising, AllBelow}
use Rattle.sorted_pages.specs.Edges.{is_none, ends_with, begins_with, first_passes, last_passes, is_before_edge}
use Rattle.sorted_pages.specs.Ranges.{IsMonotone, failing_from, passing_to, from_span, until_span, within}
use Rattle.sorted_pages.proofs.Edges.{both, first, second}
use Rattle.sorted_pages.proofs.Orders.{less_from, true_from, holds_from, rising_left, rising_apart, all_pass, all_fail}
use Rattle.sorted_pages.proofs.Flats.{flat_map-append}

false_from : (b : Bool) → T (not b) → b ≡ false
false_from true h = absurd h
false_from false h = refl

module _ {X : Type 0} (p : X → Bool) where
  -- ---- the last and the first of lists in a row

  ends_from_last : (xs : List X) → T (last_passes p xs) → T (ends_with p xs)
  ends_from_last [] h = absurd h
  ends_from_last (x ∷ []) h = h
  ends_from_last (x ∷ y ∷ ys) h = ends_from_last (y ∷ ys) h

  last_from_ends : (x : X) (xs : List X) → T (ends_with p (x ∷ xs)) → T (last_passes p (x ∷ xs))
  last_from_ends x [] h = h
  last_from_ends x (y ∷ ys) h = last_from_ends y ys h

  pub last_right : (xs zs : List X) → T (last_passes p zs) → T (last_passes p (xs ++ zs))
  last_right [] zs h = h
  last_right (x ∷ []) [] h = absurd h
  last_right (x ∷ []) (z ∷ zs) h = h
  last_right (x ∷ y ∷ ys) zs h = last_right (y ∷ ys) zs h

  first_left : (xs zs : List X) → T (first_passes p xs) → T (first_passes p (xs ++ zs))
  first_left [] zs h = absurd h
  first_left (x ∷ xs) zs h = h

  begins_from_first : (xs : List X) → T (first_passes p xs) → T (begins_with p xs)
  begins_from_first [] h = tt
  begins_from_first (x ∷ xs) h = h

  module _ {B : Type 0} (v : B → List X) (P : B → Bool) where
    module _ (last : (b : B) → T (P b) → T (last_passes p (v b))) where
      last_of_blocks : (b : B) (bs : List B) → T (ends_with P (b ∷ bs)) → T (last_passes p (flat_map v (b ∷ bs)))
      last_of_blocks b [] h = subst (λ xs. T (last_passes p xs)) (sym (append-nil (v b))) (last b h)
      last_of_blocks b (c ∷ cs) h = last_right (v b) (flat_map v (c ∷ cs)) (last_of_blocks c cs h)

      pub ends_of_blocks : (bs : List B) → T (ends_with P bs) → T (ends_with p (flat_map v bs))
      ends_of_blocks [] h = tt
      ends_of_blocks (b ∷ bs) h = ends_from_last (flat_map v (b ∷ bs)) (last_of_blocks b bs h)

    module _ (front : (b : B) → T (P b) → T (first_passes p (v b))) where
      pub begins_of_blocks : (bs : List B) → T (begins_with P bs) → T (begins_with p (flat_map v bs))
      begins_of_blocks [] h = tt
      begins_of_blocks (b ∷ bs) h = begins_from_first (flat_map v (b ∷ bs)) (first_left (v b) (flat_map v bs) (front b h))

  -- ---- those from the first on that fails

  failing-front : (xs ys : List X) → T (list_all p xs) → failing_from p (xs ++ ys) ≡ failing_from p ys
  failing-front [] ys h = refl
  failing-front (x ∷ xs) ys h = ap (λ b. cond b (failing_from p (xs ++ ys)) (x ∷ (xs ++ ys))) (true_from _ (first _ _ h)) ∙ failing-front xs ys (second _ _ h)

  failing-itself : (ys : List X) → T (begins_with (λ x. not (p x)) ys) → failing_from p ys ≡ ys
  failing-itself [] h = refl
  failing-itself (y ∷ ys) h = ap (λ b. cond b (failing_from p ys) (y ∷ ys)) (false_from _ h)

  -- one of the first list fails
  failing-within : (xs ys : List X) → T (last_passes (λ x. not (p x)) xs) → failing_from p (xs ++ ys) ≡ failing_from p xs ++ ys
  failing-within [] ys h = absurd h
  failing-within (x ∷ []) ys h =
      ap (λ b. cond b (failing_from p ys) (x ∷ ys)) (false_from _ h) ∙ sym (ap (λ b. cond b [] (x ∷ []) ++ ys) (false_from _ h))
  failing-within (x ∷ y ∷ zs) ys h =
      elim (p x) as (λ b. cond b (failing_from p ((y ∷ zs) ++ ys)) (x ∷ ((y ∷ zs) ++ ys)) ≡ cond b (failing_from p (y ∷ zs)) (x ∷ y ∷ zs) ++ ys) [
        | true ↦ failing-within (y ∷ zs) ys h
        | false ↦ refl
      ]

  -- ---- those up to the first that fails

  passing-front : (xs ys : List X) → T (list_all p xs) → passing_to p (xs ++ ys) ≡ xs ++ passing_to p ys
  passing-front [] ys h = refl
  passing-front (x ∷ xs) ys h =
      ap (λ b. cond b (x ∷ passing_to p (xs ++ ys)) []) (true_from _ (first _ _ h)) ∙ ap (λ zs. x ∷ zs) (passing-front xs ys (second _ _ h))

  module _ (q : X → Bool) (apart : (x : X) → T (q x) → p x ≡ false) where
    passing-none : (ys : List X) → T (begins_with q ys) → passing_to p ys ≡ []
    passing-none [] h = refl
    passing-none (y ∷ ys) h = ap (λ b. cond b (y ∷ passing_to p ys) []) (apart y h)

    passing-within : (xs ys : List X) → T (begins_with q ys) → passing_to p (xs ++ ys) ≡ passing_to p xs
    passing-within [] ys h = passing-none ys h
    passing-within (x ∷ xs) ys h =
        elim (p x) as (λ b. cond b (x ∷ passing_to p (xs ++ ys)) [] ≡ cond b (x ∷ passing_to p xs) []) [
          | true ↦ ap (λ zs. x ∷ zs) (passing-within xs ys h)
          | false ↦ refl
        ]

    -- the first of the first list fails already
    passing-neither : (xs ys : List X) → T (first_passes q xs) → passing_to p (xs ++ ys) ≡ passing_to p xs
    passing-neither [] ys h = absurd h
    passing-neither (x ∷ xs) ys h = ap (λ b. cond b (x ∷ passing_to p (xs ++ ys)) []) (apart x h) ∙ sym (ap (λ b. cond b (x ∷ passing_to p xs) []) (apart x h))

module _ {E : Type 0} (R : E → E → Ordering) (side : E → Ordering) (m : IsMonotone R side) where
  abbrev is_before : E → Bool
  is_before e = is_lt (side e)

  abbrev is_until : E → Bool
  is_until e = not (is_gt (side e))

  abbrev is_past : E → Bool
  is_past e = is_gt (side e)

  falls_before : (x y : E) → R x y ≡ Less → is_before y ≡ true → is_before x ≡ true
  falls_before x y l h = m.before x y l h

  until_by : (b c : Bool) → (b ≡ true → c ≡ true) → not c ≡ true → not b ≡ true
  until_by true c f h = subst (λ d. not d ≡ true) (f refl) h
  until_by false c f h = refl

  falls_until : (x y : E) → R x y ≡ Less → is_until y ≡ true → is_until x ≡ true
  falls_until x y l h = until_by (is_past x) (is_past y) (m.until x y l) h

  past_fails : (x : E) → T (is_past x) → is_until x ≡ false
  past_fails x h = ap not (true_from _ h)

  -- ---- entries

  pub entries_from : (es front back : List E) → es ≡ front ++ back → IsRising R es → T (ends_with is_before front)
      → T (begins_with (λ e. not (is_before e)) back) → back ≡ from_span side es
  entries_from es front back e h g b =
      let rises : IsRising R (front ++ back) = subst (IsRising R) e h in
      sym (ap (from_span side) e
      ∙ failing-front is_before front back (all_pass R is_before falls_before front (rising_left R front back rises) g)
      ∙ failing-itself is_before back b)

  pub entries_to : (es front back : List E) → es ≡ front ++ back → IsRising R es → T (ends_with is_until front)
      → T (begins_with is_past back) → front ≡ until_span side es
  entries_to es front back e h g b =
      let rises : IsRising R (front ++ back) = subst (IsRising R) e h in
      sym (ap (until_span side) e ∙ passing-front is_until front back (all_pass R is_until falls_until front (rising_left R front back rises) g)
      ∙ ap (λ zs. front ++ zs) (passing-none is_until is_past past_fails back b) ∙ append-nil front)

  -- ---- blocks

  module _ {B : Type 0} (v : B → List E) (P Q : B → Bool) where
    module _ (passed : (b : B) → T (P b) → T (last_passes is_before (v b))) (failed : (b : B) → T (Q b) → T (last_passes (λ e. not (is_before e)) (v b))) where
      pub blocks_from : (front back : List B) → IsRising R (flat_map v (front ++ back)) → T (ends_with P front)
          → from_span side (flat_map v (front ++ back)) ≡ from_span side (flat_map v back)
      blocks_from front back h g =
          let rises : IsRising R (flat_map v front ++ flat_map v back) = subst (IsRising R) (flat_map-append v front back) h in
          ap (from_span side) (flat_map-append v front back)
          ∙ failing-front is_before (flat_map v front) (flat_map v back)
          (all_pass R is_before falls_before (flat_map v front) (rising_left R (flat_map v front) (flat_map v back) rises)
          (ends_of_blocks is_before v P passed front g))

      pub block_from : (b : B) (bs : List B) → T (Q b) → from_span side (flat_map v (b ∷ bs)) ≡ from_span side (v b) ++ flat_map v bs
      block_from b bs h = failing-within is_before (v b) (flat_map v bs) (failed b h)

    module _ (passed : (b : B) → T (P b) → T (first_passes is_until (v b))) (failed : (b : B) → T (Q b) → T (first_passes is_past (v b))) where
      all_until_first : (xs es rest : List E) → IsRising R (xs ++ (es ++ rest)) → T (first_passes is_until es) → T (list_all is_until xs)
      all_until_first xs [] rest h g = absurd g
      all_until_first xs (e ∷ es) rest h g = until_each xs (rising_apart R xs (e ∷ (es ++ rest)) h)
        where
          until_each : (ys : List E) → AllBelow R ys (e ∷ (es ++ rest)) → T (list_all is_until ys)
          until_each [] a = tt
          until_each (y ∷ ys) a = both _ _ (holds_from _ (falls_until y e (less_from _ (first _ _ a.0)) (true_from _ g))) (until_each ys a.1)

      pub blocks_until : (before from : List B) → IsRising R (flat_map v (before ++ from)) → T (is_before_edge P Q before from)
          → until_span side (flat_map v (before ++ from)) ≡ flat_map v before ++ until_span side (flat_map v from)
      blocks_until [] from h g = refl
      blocks_until (b ∷ bs) [] h g = absurd g
      blocks_until (b ∷ bs) (f ∷ fs) h g =
          let rises : IsRising R (flat_map v (b ∷ bs) ++ flat_map v (f ∷ fs)) = subst (IsRising R) (flat_map-append v (b ∷ bs) (f ∷ fs)) h in
          ap (until_span side) (flat_map-append v (b ∷ bs) (f ∷ fs))
          ∙ passing-front is_until (flat_map v (b ∷ bs)) (flat_map v (f ∷ fs))
          (all_until_first (flat_map v (b ∷ bs)) (v f) (flat_map v fs) rises (passed f (first _ _ g)))

      either_way : (a b c : Bool) {A : Type 0} → (T a → A) → (T b → T c → A) → T (a || (b && c)) → A
      either_way true b c f k h = f tt
      either_way false true c f k h = k tt h
      either_way false false c f k h = absurd h

      pub block_until : (before : List B) (f : B) (fs : List B) → T (is_before_edge P Q before (f ∷ fs))
          → until_span side (flat_map v (f ∷ fs)) ≡ until_span side (v f)
      block_until before f fs g =
          either_way (is_none before && Q f) (P f) (begins_with Q fs)
          (λ first_fails. passing-neither is_until is_past past_fails (v f) (flat_map v fs) (failed f (second _ _ first_fails)))
          (λ _ next_fails. passing-within is_until is_past past_fails (v f) (flat_map v fs) (begins_of_blocks is_past v Q failed fs next_fails)) g

  -- ---- parts of different sizes in a row

  pub until_past : (es more : List E) → T (begins_with is_past more) → until_span side (es ++ more) ≡ until_span side es
  until_past es more h = passing-within is_until is_past past_fails es more h

  pub until_reaching : (es more : List E) → IsRising R (es ++ more) → T (first_passes is_until more) → until_span side (es ++ more) ≡ es ++ until_span side more
  until_reaching es [] h g = absurd g
  until_reaching es (e ∷ more) h g =
      passing-front is_until es (e ∷ more) (until_each es (rising_apart R es (e ∷ more) h))
    where
      until_each : (ys : List E) → AllBelow R ys (e ∷ more) → T (list_all is_until ys)
      until_each [] a = tt
      until_each (y ∷ ys) a = both _ _ (holds_from _ (falls_until y e (less_from _ (first _ _ a.0)) (true_from _ g))) (until_each ys a.1)

  -- ---- the range

  pub rising-from : (es : List E) → IsRising R es → IsRising R (from_span side es)
  rising-from [] h = tt
  rising-from (e ∷ es) h = elim (is_before e) as (λ b. IsRising R (cond b (from_span side es) (e ∷ es))) [ true ↦ rising-from es (second _ _ h) | false ↦ h ]

  abbrev is_in : E → Bool
  is_in e = is_eq (side e)

  none_past : (es : List E) → T (list_all is_past es) → within side es ≡ []
  none_past [] h = refl
  none_past (e ∷ es) h = ap (λ b. cond b (e ∷ within side es) (within side es)) (not_in (side e) (first _ _ h)) ∙ none_past es (second _ _ h)
    where
      not_in : (r : Ordering) → T (is_gt r) → is_eq r ≡ false
      not_in Less k = absurd k
      not_in Equal k = absurd k
      not_in Greater k = refl

  pub lasts_past : (x y : E) → R x y ≡ Less → is_past x ≡ true → is_past y ≡ true
  lasts_past x y l h = m.until x y l h

  lasts_from : (x y : E) → R x y ≡ Less → not (is_before x) ≡ true → not (is_before y) ≡ true
  lasts_from x y l h = until_by (is_before y) (is_before x) (m.before x y l) h

  -- nothing stands before the range any more
  within_from : (es : List E) → IsRising R es → T (list_all (λ e. not (is_before e)) es) → until_span side es ≡ within side es
  within_from [] h g = refl
  within_from (e ∷ es) h g =
      let rest = within_from es (second _ _ h) (second _ _ g) in
      elim (side e) as (λ r. side e ≡ r → T (not (is_lt r)) → cond (not (is_gt r)) (e ∷ until_span side es) []
      ≡ cond (is_eq r) (e ∷ within side es) (within side es)) [
        | Less ↦ λ s k. absurd k
        | Equal ↦ λ s k. ap (λ zs. e ∷ zs) rest
        | Greater ↦ λ s k. sym (none_past es (second _ _ (all_fail R is_past lasts_past (e ∷ es) h (subst (λ r. T (is_gt r)) (sym s) tt))))
      ] refl (first _ _ g)

  pub range_is : (es : List E) → IsRising R es → until_span side (from_span side es) ≡ within side es
  range_is [] h = refl
  range_is (e ∷ es) h =
      elim (side e) as (λ r. side e ≡ r → until_span side (cond (is_lt r) (from_span side es) (e ∷ es))
      ≡ cond (is_eq r) (e ∷ within side es) (within side es)) [
        | Less ↦ λ s. range_is es (second _ _ h)
        | Equal ↦
            λ s. within_from (e ∷ es) h (starts (subst (λ r. T (not (is_lt r))) (sym s) tt))
            ∙ ap (λ r. cond (is_eq r) (e ∷ within side es) (within side es)) s
        | Greater ↦
            λ s. within_from (e ∷ es) h (starts (subst (λ r. T (not (is_lt r))) (sym s) tt))
            ∙ ap (λ r. cond (is_eq r) (e ∷ within side es) (within side es)) s
      ] refl
    where
      starts : T (not (is_before e)) → T (list_all (λ x. not (is_before x)) (e ∷ es))
      starts k = all_fail R (λ x. not (is_before x)) lasts_from (e ∷ es) h k
