-- A step of a loop that applies changes: what is done, and what is ahead.
use Rattle.std.proofs.Common.{◌≡◌, ◌∙◌, ap, sym, subst, refl, Bool, true, not, T, List, [], ◌∷◌, ◌++◌, map, drop}
use Rattle.std.proofs.Common.{length, arith, append_assoc, slice_get, None, Some, Ordering, Less, Equal, Greater}
use Rattle.std.proofs.Common.{is_lt, is_some}
use Rattle.std.proofs.lemmas.List.{map-append}
use Rattle.std.specs.List.{list_all, flat_map}
use Rattle.std.specs.Cmp.{IsTotalOrder}
use Rattle.std.specs.Ordering.{is_gt, ordering_reverse}
use Rattle.sorted_pages.specs.declared.apply.Edit.{Edit}
use Rattle.sorted_pages.specs.Sorted.{IsRising, is_below, AllBelow, PassesBelow}
use Rattle.sorted_pages.specs.Changes.{entry_of, with_changes, entries_put, without_tied}
use Rattle.sorted_pages.specs.Edges.{ends_with, begins_with, first_passes, is_before_edge}
use Rattle.sorted_pages.proofs.Edges.{first, second}
use Rattle.sorted_pages.proofs.Flats.{flat_map-append}
use Rattle.sorted_pages.proofs.Orders.{less_from, holds_from, rising_left, rising_right, rising_apart, all_pass}
use Rattle.sorted_pages.proofs.Orders.{less_upto, below_from, AllBelow-none, AllBelow_left, AllBelow_along}
use Rattle.sorted_pages.proofs.Orders.{AllBelow_from, AllBelow_upto}
use Rattle.sorted_pages.proofs.Parts.{laid_apart, laid_one, rising-without_tied}

pub first_is : {X : Type 0} (xs : List X) (x : X) → Some x ≡ slice_get xs 0 → xs ≡ x ∷ drop 1 xs
first_is [] x e = absurd (subst T (ap is_some e) tt)
first_is (y ∷ ys) x e = ap (λ z. z ∷ ys) (same (sym e))
  where
    same : Some y ≡ Some x → y ≡ x
    same e = cc

pub none_is : {X : Type 0} (xs : List X) → None ≡ slice_get xs 0 → xs ≡ []
none_is [] e = refl
none_is (y ∷ ys) e = absurd (subst T (sym (ap is_some e)) tt)

pub ends_with-map : {X Y : Type 0} (f : X → Y) (p : Y → Bool) (xs : List X) → ends_with (λ x. p (f x)) xs ≡ ends_with p (map f xs)
ends_with-map f p [] = refl
ends_with-map f p (x ∷ []) = refl
ends_with-map f p (x ∷ y ∷ ys) = ends_with-map f p (y ∷ ys)

module _ {E : Type 0} (R : E → E → Ordering) (o : IsTotalOrder R) where
  below_falls : (n x y : E) → R x y ≡ Less → is_lt (R y n) ≡ true → is_lt (R x n) ≡ true
  below_falls n x y l h = ap is_lt (o.trans x y n l (less_from _ (holds_from _ h)))

  -- ---- the place of a change, and the changes before a place

  pub mine_are_less : (n : E) (changes mine later : List (Edit E)) → changes ≡ mine ++ later → IsRising R (map entry_of changes)
      → T (ends_with (λ c. is_lt (R (entry_of c) n)) mine) → T (list_all (λ e. is_lt (R e n)) (map entry_of mine))
  mine_are_less n changes mine later e h g =
      let parts : IsRising R (map entry_of mine ++ map entry_of later) = subst (IsRising R) (ap (map entry_of) e ∙ map-append entry_of mine later) h in
      all_pass R (λ e. is_lt (R e n)) (below_falls n) (map entry_of mine) (rising_left R (map entry_of mine) (map entry_of later) parts)
      (subst T (ends_with-map entry_of (λ e. is_lt (R e n)) mine) g)

  pub less_all_below : (c : E) (less rest : List E) → IsRising R (less ++ rest) → T (ends_with (λ e. is_lt (R e c)) less) → AllBelow R less (c ∷ [])
  less_all_below c less rest h g = AllBelow_from R o less c [] (all_pass R (λ e. is_lt (R e c)) (below_falls c) less (rising_left R less rest h) g) tt

  pub mine_below : (ms zs tail : List E) (y : E) → zs ≡ y ∷ tail → IsRising R zs → T (list_all (λ e. is_lt (R e y)) ms) → AllBelow R ms zs
  mine_below ms zs tail y e h g = subst (AllBelow R ms) (sym e) (AllBelow_from R o ms y tail g (subst (IsRising R) e h))

  pub none_below : (ms zs : List E) → zs ≡ [] → AllBelow R ms zs
  none_below ms zs e = subst (AllBelow R ms) (sym e) (AllBelow-none R ms)

  upto_from : (r : Ordering) → T (not (is_lt (ordering_reverse r))) → T (not (is_gt r))
  upto_from Less h = tt
  upto_from Equal h = tt
  upto_from Greater h = h

  later_pass : (x y : E) (ls : List E) → R x y ≡ Less → IsRising R ls → T (begins_with (λ e. not (is_lt (R e y))) ls) → T (is_below R x ls)
  later_pass x y [] l h g = tt
  later_pass x y (z ∷ zs) l h g =
      below_from R o x z zs (less_upto R o x y z l (upto_from (R y z) (subst (λ r. T (not (is_lt r))) (o.antisymm z y) g))) h

  pub later_passes : (changes mine later : List (Edit E)) (zs tail : List E) (y : E) → zs ≡ y ∷ tail → changes ≡ mine ++ later
      → IsRising R (map entry_of changes)
      → T (begins_with (λ e. not (is_lt (R e y))) (map entry_of later)) → PassesBelow R zs (map entry_of later)
  later_passes changes mine later zs tail y e d h g = λ x b.
      let parts : IsRising R (map entry_of mine ++ map entry_of later) = subst (IsRising R) (ap (map entry_of) d ∙ map-append entry_of mine later) h in
      later_pass x y (map entry_of later) (less_from _ (first _ _ (subst (λ es. T (is_below R x es)) e b)))
      (rising_right R (map entry_of mine) (map entry_of later) parts) g

  module _ {B : Type 0} (v : B → List E) (c : E) (P Q : B → Bool) (passed : (b : B) → T (P b) → T (first_passes (λ e. not (is_gt (R e c))) (v b))) where
    placed_by : (xs es rest : List E) → AllBelow R xs (es ++ rest) → T (first_passes (λ e. not (is_gt (R e c))) es) → AllBelow R xs (c ∷ [])
    placed_by xs [] rest a h = absurd h
    placed_by xs (e ∷ es) rest a h = AllBelow_upto R o xs e c (AllBelow_left R xs (e ∷ []) (es ++ rest) a) h

    -- all that stands before the place is less than the entry
    pub placed : (before from : List B) → IsRising R (flat_map v (before ++ from)) → T (is_before_edge P Q before from)
        → AllBelow R (flat_map v before) (c ∷ [])
    placed [] from h g = tt
    placed (b ∷ bs) [] h g = absurd g
    placed (b ∷ bs) (f ∷ fs) h g =
        placed_by (flat_map v (b ∷ bs)) (v f) (flat_map v fs)
        (rising_apart R (flat_map v (b ∷ bs)) (flat_map v (f ∷ fs)) (subst (IsRising R) (flat_map-append v (b ∷ bs) (f ∷ fs)) h)) (passed f (first _ _ g))

  -- ---- the end of a loop, and one turn of it

  pub laid_all : (ahead : List (Edit E)) (left done total : List E) → length ahead ≡ 0 → done ++ with_changes R ahead left ≡ total → done ++ left ≡ total
  laid_all [] left done total h e = e
  laid_all (c ∷ cs) left done total h e = absurd (omega (arith, h))

  passes_all : (bs ys ls : List E) → PassesBelow R ys ls → AllBelow R bs ys → AllBelow R bs ls
  passes_all [] ys ls p g = tt
  passes_all (b ∷ bs) ys ls p g = (p b g.0, passes_all bs ys ls p g.1)

  pub rising_parts : (xs bs ys left : List E) → left ≡ xs ++ (bs ++ ys) → IsRising R left → IsRising R bs × IsRising R ys
  rising_parts xs bs ys left e h =
      let both_rise : IsRising R (bs ++ ys) = rising_right R xs (bs ++ ys) (subst (IsRising R) e h) in
      (rising_left R bs ys both_rise, rising_right R bs ys both_rise)

  pub changes_parts : (ahead mine later : List (Edit E)) → ahead ≡ mine ++ later → IsRising R (map entry_of ahead)
      → IsRising R (map entry_of mine) × IsRising R (map entry_of later)
  changes_parts ahead mine later e h =
      let parts : IsRising R (map entry_of mine ++ map entry_of later) = subst (IsRising R) (ap (map entry_of) e ∙ map-append entry_of mine later) h in
      (rising_left R (map entry_of mine) (map entry_of later) parts, rising_right R (map entry_of mine) (map entry_of later) parts)

  block_step : (c : Edit E) (cs mine later : List (Edit E)) (xs bs ys : List E) → c ∷ cs ≡ mine ++ later → IsRising R (xs ++ (bs ++ ys))
      → IsRising R (map entry_of (c ∷ cs))
      → AllBelow R xs (entry_of c ∷ []) → AllBelow R (map entry_of mine) ys → PassesBelow R ys (map entry_of later)
      → with_changes R (c ∷ cs) (xs ++ (bs ++ ys)) ≡ xs ++ (with_changes R mine bs ++ with_changes R later ys)
  block_step c cs mine later xs bs ys e h k a b p =
      let parts : IsRising R (map entry_of mine ++ map entry_of later) = subst (IsRising R) (ap (map entry_of) e ∙ map-append entry_of mine later) k in
      let front : AllBelow R xs (map entry_of (c ∷ cs)) = AllBelow_along R o xs (entry_of c) (map entry_of cs) a (first _ _ k) in
      ap (λ ds. with_changes R ds (xs ++ (bs ++ ys))) e
      ∙ laid_apart R o mine later xs bs ys (subst (λ ds. AllBelow R xs (map entry_of ds)) e front) b
      (passes_all bs ys (map entry_of later) p (rising_apart R bs ys (rising_right R xs (bs ++ ys) h)))
      (rising_apart R (map entry_of mine) (map entry_of later) parts)

  -- pages or runs: some are shared, one is made anew
  pub level_step : (c : Edit E) (cs ahead mine later : List (Edit E)) (xs bs ys left done shared laid total : List E)
      → ahead ≡ c ∷ cs → ahead ≡ mine ++ later → left ≡ xs ++ (bs ++ ys) → IsRising R left → IsRising R (map entry_of ahead)
      → AllBelow R xs (entry_of c ∷ []) → AllBelow R (map entry_of mine) ys → PassesBelow R ys (map entry_of later)
      → shared ≡ done ++ xs → laid ≡ shared ++ with_changes R mine bs → done ++ with_changes R ahead left ≡ total
      → laid ++ with_changes R later ys ≡ total
  level_step c cs ahead mine later xs bs ys left done shared laid total ea em el h k a b p es ed et =
      ap (λ zs. zs ++ with_changes R later ys) (ed ∙ ap (λ zs. zs ++ with_changes R mine bs) es)
      ∙ append_assoc (done ++ xs) (with_changes R mine bs) (with_changes R later ys) ∙ append_assoc done xs (with_changes R mine bs ++ with_changes R later ys)
      ∙ ap (λ zs. done ++ zs) (sym
      (block_step c cs mine later xs bs ys (sym ea ∙ em) (subst (IsRising R) el h) (subst (λ ds. IsRising R (map entry_of ds)) ea k) a b p))
      ∙ (λ i. done ++ with_changes R (sym ea i) (sym el i)) ∙ et

  -- entries: some are shared, one is put, replaced or removed
  pub entry_step : (c : Edit E) (later ahead : List (Edit E)) (less rest left done shared put total : List E)
      → ahead ≡ c ∷ later → left ≡ less ++ rest → IsRising R left → IsRising R (map entry_of ahead)
      → T (ends_with (λ e. is_lt (R e (entry_of c))) less) → T (begins_with (λ e. not (is_lt (R e (entry_of c)))) rest)
      → shared ≡ done ++ less → put ≡ shared ++ entries_put c → done ++ with_changes R ahead left ≡ total
      → put ++ with_changes R later (without_tied R (entry_of c) rest) ≡ total
  entry_step c later ahead less rest left done shared put total ea el h k g b es ep et =
      let rises : IsRising R (less ++ rest) = subst (IsRising R) el h in
      ap (λ zs. zs ++ with_changes R later (without_tied R (entry_of c) rest)) (ep ∙ ap (λ zs. zs ++ entries_put c) es)
      ∙ append_assoc (done ++ less) (entries_put c) (with_changes R later (without_tied R (entry_of c) rest))
      ∙ append_assoc done less (entries_put c ++ with_changes R later (without_tied R (entry_of c) rest))
      ∙ ap (λ zs. done ++ zs) (sym
      (laid_one R o c later less rest (less_all_below (entry_of c) less rest rises g) (rising_right R less rest rises)
      (subst (λ ds. IsRising R (map entry_of ds)) ea k) b))
      ∙ (λ i. done ++ with_changes R (sym ea i) (sym el i)) ∙ et

  pub entry_turn : (c : Edit E) (later ahead : List (Edit E)) (x : E) (less rest left next done shared put total : List E)
      → x ≡ entry_of c → ahead ≡ c ∷ later → left ≡ less ++ rest → IsRising R left → IsRising R (map entry_of ahead)
      → T (ends_with (λ e. is_lt (R e x)) less) → T (begins_with (λ e. not (is_lt (R e x))) rest) → next ≡ without_tied R x rest
      → shared ≡ done ++ less → put ≡ shared ++ entries_put c → done ++ with_changes R ahead left ≡ total
      → (put ++ with_changes R later next ≡ total) × IsRising R next × IsRising R (map entry_of later)
  entry_turn c later ahead x less rest left next done shared put total ex ea el h k g b en es ep et =
      let here : next ≡ without_tied R (entry_of c) rest = en ∙ ap (λ y. without_tied R y rest) ex in
      let rises : IsRising R rest = rising_right R less rest (subst (IsRising R) el h) in (
        ap (λ zs. put ++ with_changes R later zs) here
            ∙ entry_step c later ahead less rest left done shared put total ea el h k
            (subst (λ y. T (ends_with (λ e. is_lt (R e y)) less)) ex g) (subst (λ y. T (begins_with (λ e. not (is_lt (R e y))) rest)) ex b)
            es ep et,
        subst (IsRising R) (sym en) (rising-without_tied R o x rest rises),
        second _ _ (subst (λ ds. IsRising R (map entry_of ds)) ea k),
      )

  pub level_turn : (c : Edit E) (cs ahead mine later : List (Edit E)) (x : E) (xs bs ys left done shared laid total : List E)
      → x ≡ entry_of c → ahead ≡ c ∷ cs → ahead ≡ mine ++ later → left ≡ xs ++ (bs ++ ys) → IsRising R left → IsRising R (map entry_of ahead)
      → AllBelow R xs (x ∷ []) → AllBelow R (map entry_of mine) ys → PassesBelow R ys (map entry_of later)
      → shared ≡ done ++ xs → laid ≡ shared ++ with_changes R mine bs → done ++ with_changes R ahead left ≡ total
      → (laid ++ with_changes R later ys ≡ total) × IsRising R ys × IsRising R (map entry_of later)
  level_turn c cs ahead mine later x xs bs ys left done shared laid total ex ea em el h k a b p es ed et = (
    level_step c cs ahead mine later xs bs ys left done shared laid total ea em el h k (subst (λ y. AllBelow R xs (y ∷ [])) ex a) b p es ed et,
    (rising_parts xs bs ys left el h).1,
    (changes_parts ahead mine later em k).1,
  )
