-- Changes applied to a sorted list part by part.
use Rattle.std.proofs.Common.{◌≡◌, ◌∙◌, ap, sym, subst, refl, true, false, cond, not, T, List, [], ◌∷◌, ◌++◌, map, Ordering, Less, Equal, Greater, is_lt, is_eq}
use Rattle.std.specs.Cmp.{IsTotalOrder, tied_back}
use Rattle.std.specs.Ordering.{eq_by_cmp, ordering_reverse}
use Rattle.std.specs.FinMap.Entries.{by_order, put, where_key}
use Rattle.sorted_pages.specs.declared.apply.Edit.{Edit}
use Rattle.sorted_pages.specs.declared.apply.Edit.TheVariants.{Put, Remove}
use Rattle.sorted_pages.specs.Sorted.{keyed, entries, IsRising, is_below, AllBelow}
use Rattle.sorted_pages.specs.Changes.{entry_of, with_change, with_changes, entries_put, without_tied}
use Rattle.sorted_pages.specs.Edges.{begins_with}
use Rattle.sorted_pages.proofs.Edges.{both, first, second}
use Rattle.sorted_pages.proofs.Orders.{less_from, lt_from, turned_less, turned_greater, below_from, AllBelow_left, AllBelow_right, AllBelow_along}

pub entries-keyed : {E : Type 0} (es : List E) → entries (keyed es) ≡ es
entries-keyed [] = refl
entries-keyed (e ∷ es) = ap (λ xs. e ∷ xs) (entries-keyed es)

split_entries : {E : Type 0} (xs ys : List E) → entries (keyed (xs ++ ys)) ≡ entries (keyed xs) ++ ys
split_entries xs ys = entries-keyed (xs ++ ys) ∙ ap (λ zs. zs ++ ys) (sym (entries-keyed xs))

module _ {E : Type 0} (R : E → E → Ordering) where
  abbrev left : E → List E → List (E × E)
  left c xs = where_key R (λ k. not (eq_by_cmp R c k)) (keyed xs)

  -- ---- one change

  at_greater : (c : Edit E) (x : E) (xs : List E) → R (entry_of c) x ≡ Greater → with_change R c (x ∷ xs) ≡ x ∷ with_change R c xs
  at_greater (Put c) x xs g = ap (λ r. entries (by_order r ((c, c) ∷ (x, x) ∷ keyed xs) ((x, c) ∷ keyed xs) ((x, x) ∷ put R c c (keyed xs)))) g
  at_greater (Remove c) x xs g = ap (λ r. entries (cond (not (is_eq r)) ((x, x) ∷ left c xs) (left c xs))) g

  at_less : (c : Edit E) (ys : List E) → T (is_below R (entry_of c) ys) → with_change R c ys ≡ entries_put c ++ ys
  at_less (Put c) [] h = refl
  at_less (Put c) (y ∷ ys) h =
      ap (λ r. entries (by_order r ((c, c) ∷ (y, y) ∷ keyed ys) ((y, c) ∷ keyed ys) ((y, y) ∷ put R c c (keyed ys)))) (less_from _ (first _ _ h))
      ∙ ap (λ zs. c ∷ y ∷ zs) (entries-keyed ys)
  at_less (Remove c) [] h = refl
  at_less (Remove c) (y ∷ ys) h =
      ap (λ r. entries (cond (not (is_eq r)) ((y, y) ∷ left c ys) (left c ys))) (less_from _ (first _ _ h))
      ∙ ap (λ zs. y ∷ zs) (at_less (Remove c) ys (second _ _ h))

  change_before : (c : Edit E) (xs ys : List E) → T (is_below R (entry_of c) ys) → with_change R c (xs ++ ys) ≡ with_change R c xs ++ ys
  change_before (Put c) [] ys h = at_less (Put c) ys h
  change_before (Remove c) [] ys h = at_less (Remove c) ys h
  change_before (Put c) (x ∷ xs) ys h =
      elim (R c x) as (λ r. entries (by_order r ((c, c) ∷ (x, x) ∷ keyed (xs ++ ys)) ((x, c) ∷ keyed (xs ++ ys)) ((x, x) ∷ put R c c (keyed (xs ++ ys))))
      ≡ entries (by_order r ((c, c) ∷ (x, x) ∷ keyed xs) ((x, c) ∷ keyed xs) ((x, x) ∷ put R c c (keyed xs))) ++ ys) [
        | Less ↦ ap (λ zs. c ∷ x ∷ zs) (split_entries xs ys)
        | Equal ↦ ap (λ zs. c ∷ zs) (split_entries xs ys)
        | Greater ↦ ap (λ zs. x ∷ zs) (change_before (Put c) xs ys h)
      ]
  change_before (Remove c) (x ∷ xs) ys h =
      elim (eq_by_cmp R c x) as (λ b. entries (cond (not b) ((x, x) ∷ left c (xs ++ ys)) (left c (xs ++ ys)))
      ≡ entries (cond (not b) ((x, x) ∷ left c xs) (left c xs)) ++ ys) [
        | true ↦ change_before (Remove c) xs ys h
        | false ↦ ap (λ zs. x ∷ zs) (change_before (Remove c) xs ys h)
      ]

  AllBelow-with_change : (c : Edit E) (xs zs : List E) → AllBelow R xs zs → T (is_below R (entry_of c) zs) → AllBelow R (with_change R c xs) zs
  AllBelow-with_change (Put c) [] zs g h = (h, tt)
  AllBelow-with_change (Remove c) [] zs g h = tt
  AllBelow-with_change (Put c) (x ∷ xs) zs g h =
      let rest : AllBelow R (entries (keyed xs)) zs = subst (λ es. AllBelow R es zs) (sym (entries-keyed xs)) g.1 in
      elim (R c x) as (λ r. AllBelow R (entries (by_order r ((c, c) ∷ (x, x) ∷ keyed xs) ((x, c) ∷ keyed xs) ((x, x) ∷ put R c c (keyed xs)))) zs) [
        | Less ↦ (h, (g.0, rest))
        | Equal ↦ (h, rest)
        | Greater ↦ (g.0, AllBelow-with_change (Put c) xs zs g.1 h)
      ]
  AllBelow-with_change (Remove c) (x ∷ xs) zs g h =
      elim (eq_by_cmp R c x) as (λ b. AllBelow R (entries (cond (not b) ((x, x) ∷ left c xs) (left c xs))) zs) [
        | true ↦ AllBelow-with_change (Remove c) xs zs g.1 h
        | false ↦ (g.0, AllBelow-with_change (Remove c) xs zs g.1 h)
      ]

  -- ---- many changes

  abbrev pub changed_entries : List (Edit E) → List E
  changed_entries cs = map entry_of cs

  changes_before : (cs : List (Edit E)) (xs ys : List E) → AllBelow R (changed_entries cs) ys → with_changes R cs (xs ++ ys) ≡ with_changes R cs xs ++ ys
  changes_before [] xs ys h = refl
  changes_before (c ∷ cs) xs ys h = ap (with_changes R cs) (change_before c xs ys h.0) ∙ changes_before cs (with_change R c xs) ys h.1

  changes_in_turn : (cs ds : List (Edit E)) (es : List E) → with_changes R (cs ++ ds) es ≡ with_changes R ds (with_changes R cs es)
  changes_in_turn [] ds es = refl
  changes_in_turn (c ∷ cs) ds es = changes_in_turn cs ds (with_change R c es)

  AllBelow-with_changes : (cs : List (Edit E)) (xs zs : List E) → AllBelow R xs zs → AllBelow R (changed_entries cs) zs → AllBelow R (with_changes R cs xs) zs
  AllBelow-with_changes [] xs zs g h = g
  AllBelow-with_changes (c ∷ cs) xs zs g h = AllBelow-with_changes cs (with_change R c xs) zs (AllBelow-with_change c xs zs g h.0) h.1

  module _ (o : IsTotalOrder R) where
    change_after : (c : Edit E) (xs ys : List E) → AllBelow R xs (entry_of c ∷ []) → with_change R c (xs ++ ys) ≡ xs ++ with_change R c ys
    change_after c [] ys h = refl
    change_after c (x ∷ xs) ys h =
        at_greater c x (xs ++ ys) (turned_less R o x (entry_of c) (less_from _ (first _ _ h.0))) ∙ ap (λ zs. x ∷ zs) (change_after c xs ys h.1)

    pub changes_after : (cs : List (Edit E)) (xs ys : List E) → AllBelow R xs (changed_entries cs) → with_changes R cs (xs ++ ys) ≡ xs ++ with_changes R cs ys
    changes_after [] xs ys h = refl
    changes_after (c ∷ cs) xs ys h =
        ap (with_changes R cs) (change_after c xs ys (AllBelow_left R xs (entry_of c ∷ []) (changed_entries cs) h))
        ∙ changes_after cs xs (with_change R c ys) (AllBelow_right R xs (entry_of c ∷ []) (changed_entries cs) h)

    -- changes of a middle part and of the part after it
    pub laid_apart : (mine later : List (Edit E)) (xs bs ys : List E) → AllBelow R xs (changed_entries (mine ++ later)) → AllBelow R (changed_entries mine) ys
        → AllBelow R bs (changed_entries later) → AllBelow R (changed_entries mine) (changed_entries later)
        → with_changes R (mine ++ later) (xs ++ (bs ++ ys)) ≡ xs ++ (with_changes R mine bs ++ with_changes R later ys)
    laid_apart mine later xs bs ys a b c d =
        changes_after (mine ++ later) xs (bs ++ ys) a
        ∙ ap (λ zs. xs ++ zs) (changes_in_turn mine later (bs ++ ys) ∙ ap (with_changes R later) (changes_before mine bs ys b)
        ∙ changes_after later (with_changes R mine bs) ys (AllBelow-with_changes mine bs (changed_entries later) c d))

    -- ---- what is rising stays so

    tied_below : (x y : E) (zs : List E) → R x y ≡ Equal → T (is_below R y zs) → T (is_below R x zs)
    tied_below x y [] e h = tt
    tied_below x y (z ∷ zs) e h = both _ _ (subst (λ r. T (is_lt r)) (sym (o.congr x y z e)) (first _ _ h)) (tied_below x y zs e (second _ _ h))

    below-with_change : (x : E) (c : Edit E) (xs : List E) → R x (entry_of c) ≡ Less → T (is_below R x xs) → T (is_below R x (with_change R c xs))
    below-with_change x (Put c) [] l h = both _ _ (lt_from _ l) tt
    below-with_change x (Remove c) [] l h = tt
    below-with_change x (Put c) (y ∷ ys) l h =
        let rest : T (is_below R x (entries (keyed ys))) = subst (λ es. T (is_below R x es)) (sym (entries-keyed ys)) (second _ _ h) in
        elim (R c y) as (λ r. T (is_below R x (entries (by_order r ((c, c) ∷ (y, y) ∷ keyed ys) ((y, c) ∷ keyed ys) ((y, y) ∷ put R c c (keyed ys)))))) [
          | Less ↦ both _ _ (lt_from _ l) (both _ _ (first _ _ h) rest)
          | Equal ↦ both _ _ (lt_from _ l) rest
          | Greater ↦ both _ _ (first _ _ h) (below-with_change x (Put c) ys l (second _ _ h))
        ]
    below-with_change x (Remove c) (y ∷ ys) l h =
        elim (eq_by_cmp R c y) as (λ b. T (is_below R x (entries (cond (not b) ((y, y) ∷ left c ys) (left c ys))))) [
          | true ↦ below-with_change x (Remove c) ys l (second _ _ h)
          | false ↦ both _ _ (first _ _ h) (below-with_change x (Remove c) ys l (second _ _ h))
        ]

    below-removed : (x c : E) (xs : List E) → T (is_below R x xs) → T (is_below R x (with_change R (Remove c) xs))
    below-removed x c [] h = tt
    below-removed x c (y ∷ ys) h =
        elim (eq_by_cmp R c y) as (λ b. T (is_below R x (entries (cond (not b) ((y, y) ∷ left c ys) (left c ys))))) [
          | true ↦ below-removed x c ys (second _ _ h)
          | false ↦ both _ _ (first _ _ h) (below-removed x c ys (second _ _ h))
        ]

    rising-with_change : (c : Edit E) (xs : List E) → IsRising R xs → IsRising R (with_change R c xs)
    rising-with_change (Put c) [] h = tt
    rising-with_change (Remove c) [] h = tt
    rising-with_change (Put c) (x ∷ xs) h =
        let same : xs ≡ entries (keyed xs) = sym (entries-keyed xs) in
        elim (R c x) as (λ r. R c x ≡ r → IsRising R (entries (by_order r ((c, c) ∷ (x, x) ∷ keyed xs) ((x, c) ∷ keyed xs) ((x, x) ∷ put R c c (keyed xs))))) [
          | Less ↦ λ e. subst (λ es. IsRising R (c ∷ x ∷ es)) same (both _ _ (below_from R o c x xs e h) h)
          | Equal ↦ λ e. subst (λ es. IsRising R (c ∷ es)) same (both _ _ (tied_below c x xs e (first _ _ h)) (second _ _ h))
          | Greater ↦ λ e. both _ _ (below-with_change x (Put c) xs (turned_greater R o c x e) (first _ _ h)) (rising-with_change (Put c) xs (second _ _ h))
        ] refl
    rising-with_change (Remove c) (x ∷ xs) h =
        elim (eq_by_cmp R c x) as (λ b. IsRising R (entries (cond (not b) ((x, x) ∷ left c xs) (left c xs)))) [
          | true ↦ rising-with_change (Remove c) xs (second _ _ h)
          | false ↦ both _ _ (below-removed x c xs (first _ _ h)) (rising-with_change (Remove c) xs (second _ _ h))
        ]

    pub rising-with_changes : (cs : List (Edit E)) (xs : List E) → IsRising R xs → IsRising R (with_changes R cs xs)
    rising-with_changes [] xs h = h
    rising-with_changes (c ∷ cs) xs h = rising-with_changes cs (with_change R c xs) (rising-with_change c xs h)

    -- ---- one change over entries

    equal_from : (r : Ordering) → is_eq r ≡ true → r ≡ Equal
    equal_from Less e = absurd (subst T (sym e) tt)
    equal_from Equal e = refl
    equal_from Greater e = absurd (subst T (sym e) tt)

    at_tied : (c : Edit E) (x : E) → eq_by_cmp R (entry_of c) x ≡ true → with_change R c (x ∷ []) ≡ entries_put c
    at_tied (Put c) x e = ap (λ r. entries (by_order r ((c, c) ∷ (x, x) ∷ []) ((x, c) ∷ []) ((x, x) ∷ (c, c) ∷ []))) (equal_from _ e)
    at_tied (Remove c) x e = ap (λ b. entries (cond (not b) ((x, x) ∷ []) [])) e

    at_none : (c : Edit E) → with_change R c [] ≡ entries_put c
    at_none (Put c) = refl
    at_none (Remove c) = refl

    greater_by : (r : Ordering) → T (not (is_lt (ordering_reverse r))) → is_eq r ≡ false → r ≡ Less
    greater_by Less h e = refl
    greater_by Equal h e = absurd (subst T e tt)
    greater_by Greater h e = absurd h

    -- x is not less than the entry, and does not tie with it
    past : (c x : E) → T (not (is_lt (R x c))) → eq_by_cmp R c x ≡ false → R c x ≡ Less
    past c x h e = greater_by (R c x) (subst (λ r. T (not (is_lt r))) (o.antisymm x c) h) e

    pub laid_one : (c : Edit E) (later : List (Edit E)) (less rest : List E) → AllBelow R less (entry_of c ∷ []) → IsRising R rest
        → IsRising R (changed_entries (c ∷ later))
        → T (begins_with (λ e. not (is_lt (R e (entry_of c)))) rest)
        → with_changes R (c ∷ later) (less ++ rest) ≡ less ++ (entries_put c ++ with_changes R later (without_tied R (entry_of c) rest))
    laid_one c later less [] a h k b =
        laid_apart (c ∷ []) later less [] [] (AllBelow_along R o less (entry_of c) (changed_entries later) a (first _ _ k)) (tt, tt) tt (first _ _ k, tt)
        ∙ ap (λ es. less ++ (es ++ with_changes R later [])) (at_none c)
    laid_one c later less (x ∷ xs) a h k b =
        elim (eq_by_cmp R (entry_of c) x) as (λ t. eq_by_cmp R (entry_of c) x ≡ t
        → with_changes R (c ∷ later) (less ++ (x ∷ xs)) ≡ less ++ (entries_put c ++ with_changes R later (cond t xs (x ∷ xs)))) [
          | true ↦ λ e.
              laid_apart (c ∷ []) later less (x ∷ []) xs (AllBelow_along R o less (entry_of c) (changed_entries later) a (first _ _ k))
              (tied_below (entry_of c) x xs (equal_from _ e) (first _ _ h), tt)
              (tied_below x (entry_of c) (changed_entries later) (tied_back o (entry_of c) x (equal_from _ e)) (first _ _ k), tt) (first _ _ k, tt)
              ∙ ap (λ es. less ++ (es ++ with_changes R later xs)) (at_tied c x e)
          | false ↦ λ e.
              laid_apart (c ∷ []) later less [] (x ∷ xs) (AllBelow_along R o less (entry_of c) (changed_entries later) a (first _ _ k))
              (below_from R o (entry_of c) x xs (past (entry_of c) x b e) h, tt) tt (first _ _ k, tt)
              ∙ ap (λ es. less ++ (es ++ with_changes R later (x ∷ xs))) (at_none c)
        ] refl

    pub rising-without_tied : (x : E) (es : List E) → IsRising R es → IsRising R (without_tied R x es)
    rising-without_tied x [] h = tt
    rising-without_tied x (e ∷ es) h = elim (eq_by_cmp R x e) as (λ b. IsRising R (cond b es (e ∷ es))) [ true ↦ second _ _ h | false ↦ h ]
