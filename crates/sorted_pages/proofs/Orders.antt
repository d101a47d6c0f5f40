-- Lists that rise in a total order, and monotone tests over them.
use Rattle.std.proofs.Common.{◌≡◌, ◌∙◌, ap, sym, subst, refl, Bool, true, false, not, T, List, [], ◌∷◌, ◌++◌, Ordering, Less, Equal, Greater, is_lt}
use Rattle.std.specs.Ordering.{is_gt, ordering_reverse}
use Rattle.std.specs.List.{list_all}
use Rattle.std.specs.Cmp.{IsTotalOrder, alike_right}
use Rattle.sorted_pages.specs.Sorted.{IsRising, is_below, AllBelow}
use Rattle.sorted_pages.specs.Edges.{ends_with, begins_with}
use Rattle.sorted_pages.proofs.Edges.{both, first, second}

pub less_from : (r : Ordering) → T (is_lt r) → r ≡ Less
less_from Less h = refl
less_from Equal h = absurd h
less_from Greater h = absurd h

pub greater_from : (r : Ordering) → T (is_gt r) → r ≡ Greater
greater_from Less h = absurd h
greater_from Equal h = absurd h
greater_from Greater h = refl

pub lt_from : (r : Ordering) → r ≡ Less → T (is_lt r)
lt_from r e = subst (λ s. T (is_lt s)) (sym e) tt

pub true_from : (b : Bool) → T b → b ≡ true
true_from true h = refl
true_from false h = absurd h

pub holds_from : (b : Bool) → b ≡ true → T b
holds_from b e = subst T (sym e) tt

module _ {E : Type 0} (R : E → E → Ordering) where
  -- ---- parts

  pub below_both : (x : E) (ys zs : List E) → T (is_below R x ys) → T (is_below R x zs) → T (is_below R x (ys ++ zs))
  below_both x [] zs g h = h
  below_both x (y ∷ ys) zs g h = both _ _ (first _ _ g) (below_both x ys zs (second _ _ g) h)

  pub below_left : (x : E) (ys zs : List E) → T (is_below R x (ys ++ zs)) → T (is_below R x ys)
  below_left x [] zs h = tt
  below_left x (y ∷ ys) zs h = both _ _ (first _ _ h) (below_left x ys zs (second _ _ h))

  pub below_right : (x : E) (ys zs : List E) → T (is_below R x (ys ++ zs)) → T (is_below R x zs)
  below_right x [] zs h = h
  below_right x (y ∷ ys) zs h = below_right x ys zs (second _ _ h)

  pub AllBelow-none : (xs : List E) → AllBelow R xs []
  AllBelow-none [] = tt
  AllBelow-none (x ∷ xs) = (tt, AllBelow-none xs)

  pub AllBelow_both : (xs ys zs : List E) → AllBelow R xs zs → AllBelow R ys zs → AllBelow R (xs ++ ys) zs
  AllBelow_both [] ys zs g h = h
  AllBelow_both (x ∷ xs) ys zs g h = (g.0, AllBelow_both xs ys zs g.1 h)

  pub AllBelow_right : (xs ys zs : List E) → AllBelow R xs (ys ++ zs) → AllBelow R xs zs
  AllBelow_right [] ys zs h = tt
  AllBelow_right (x ∷ xs) ys zs h = (below_right x ys zs h.0, AllBelow_right xs ys zs h.1)

  pub AllBelow_left : (xs ys zs : List E) → AllBelow R xs (ys ++ zs) → AllBelow R xs ys
  AllBelow_left [] ys zs h = tt
  AllBelow_left (x ∷ xs) ys zs h = (below_left x ys zs h.0, AllBelow_left xs ys zs h.1)

  pub rising_left : (xs ys : List E) → IsRising R (xs ++ ys) → IsRising R xs
  rising_left [] ys h = tt
  rising_left (x ∷ xs) ys h = both _ _ (below_left x xs ys (first _ _ h)) (rising_left xs ys (second _ _ h))

  pub rising_right : (xs ys : List E) → IsRising R (xs ++ ys) → IsRising R ys
  rising_right [] ys h = h
  rising_right (x ∷ xs) ys h = rising_right xs ys (second _ _ h)

  pub rising_apart : (xs ys : List E) → IsRising R (xs ++ ys) → AllBelow R xs ys
  rising_apart [] ys h = tt
  rising_apart (x ∷ xs) ys h = (below_right x xs ys (first _ _ h), rising_apart xs ys (second _ _ h))

  pub rising_both : (xs ys : List E) → IsRising R xs → IsRising R ys → AllBelow R xs ys → IsRising R (xs ++ ys)
  rising_both [] ys g h a = h
  rising_both (x ∷ xs) ys g h a = both _ _ (below_both x xs ys (first _ _ g) a.0) (rising_both xs ys (second _ _ g) h a.1)

  -- ---- tests that once they fail fail from there on

  module _ (p : E → Bool) (falls : (x y : E) → R x y ≡ Less → p y ≡ true → p x ≡ true) where
    pub all_pass : (xs : List E) → IsRising R xs → T (ends_with p xs) → T (list_all p xs)
    all_pass [] h e = tt
    all_pass (x ∷ []) h e = both _ _ e tt
    all_pass (x ∷ y ∷ ys) h e =
        let rest = all_pass (y ∷ ys) (second _ _ h) e in
        both _ _ (holds_from _ (falls x y (less_from _ (first _ _ (first _ _ h))) (true_from _ (first _ _ rest)))) rest

  module _ (q : E → Bool) (lasts : (x y : E) → R x y ≡ Less → q x ≡ true → q y ≡ true) where
    all_after : (x : E) (ys : List E) → T (q x) → T (is_below R x ys) → T (list_all q ys)
    all_after x [] h e = tt
    all_after x (y ∷ ys) h e = both _ _ (holds_from _ (lasts x y (less_from _ (first _ _ e)) (true_from _ h))) (all_after x ys h (second _ _ e))

    pub all_fail : (xs : List E) → IsRising R xs → T (begins_with q xs) → T (list_all q xs)
    all_fail [] h e = tt
    all_fail (x ∷ xs) h e = both _ _ e (all_after x xs e (first _ _ h))

  -- ---- chains

  module _ (o : IsTotalOrder R) where
    pub turned_less : (x y : E) → R x y ≡ Less → R y x ≡ Greater
    turned_less x y l = o.antisymm y x ∙ ap ordering_reverse l

    pub turned_greater : (x y : E) → R x y ≡ Greater → R y x ≡ Less
    turned_greater x y l = o.antisymm y x ∙ ap ordering_reverse l

    pub less_below : (x y : E) (zs : List E) → R x y ≡ Less → T (is_below R y zs) → T (is_below R x zs)
    less_below x y [] l h = tt
    less_below x y (z ∷ zs) l h = both _ _ (lt_from _ (o.trans x y z l (less_from _ (first _ _ h)))) (less_below x y zs l (second _ _ h))

    upto_by : (x y z : E) (r : Ordering) → R y z ≡ r → R x y ≡ Less → is_gt r ≡ false → R x z ≡ Less
    upto_by x y z Less e l h = o.trans x y z l e
    upto_by x y z Equal e l h = sym (alike_right o y z x e) ∙ l
    upto_by x y z Greater e l h = absurd (subst T h tt)

    -- less, and then not greater
    pub less_upto : (x y z : E) → R x y ≡ Less → T (not (is_gt (R y z))) → R x z ≡ Less
    less_upto x y z l h = upto_by x y z (R y z) refl l (not_from _ h)
      where
        not_from : (b : Bool) → T (not b) → b ≡ false
        not_from true h = absurd h
        not_from false h = refl

    pub AllBelow_along : (xs : List E) (c : E) (ds : List E) → AllBelow R xs (c ∷ []) → T (is_below R c ds) → AllBelow R xs (c ∷ ds)
    AllBelow_along [] c ds g h = tt
    AllBelow_along (x ∷ xs) c ds g h = (both _ _ (first _ _ g.0) (less_below x c ds (less_from _ (first _ _ g.0)) h), AllBelow_along xs c ds g.1 h)

    -- what is less than the first of a rising list is less than all of it
    pub below_from : (x y : E) (ys : List E) → R x y ≡ Less → IsRising R (y ∷ ys) → T (is_below R x (y ∷ ys))
    below_from x y ys l h = both _ _ (lt_from _ l) (less_below x y ys l (first _ _ h))

    pub AllBelow_from : (xs : List E) (y : E) (ys : List E) → T (list_all (λ x. is_lt (R x y)) xs) → IsRising R (y ∷ ys) → AllBelow R xs (y ∷ ys)
    AllBelow_from [] y ys g h = tt
    AllBelow_from (x ∷ xs) y ys g h = (below_from x y ys (less_from _ (first _ _ g)) h, AllBelow_from xs y ys (second _ _ g) h)

    pub AllBelow_upto : (xs : List E) (y c : E) → AllBelow R xs (y ∷ []) → T (not (is_gt (R y c))) → AllBelow R xs (c ∷ [])
    AllBelow_upto [] y c g h = tt
    AllBelow_upto (x ∷ xs) y c g h = (both _ _ (lt_from _ (less_upto x y c (less_from _ (first _ _ g.0)) h)) tt, AllBelow_upto xs y c g.1 h)
