-- One change made at its place.
use Rattle.std.proofs.Common.{◌≡◌, ◌∙◌, ap, sym, subst, refl, Bool, true, false, cond, ◌&&◌, ◌||◌, T, not, ℕ, suc}
use Rattle.std.proofs.Common.{◌+◌, ◌<◌, arith, List, [], ◌∷◌, ◌++◌, take, drop, set, length, get_or, Some, Result, Ok}
use Rattle.std.proofs.Common.{Err, IfOk, OnErr, Ordering, Less, Equal, Greater, is_lt}
use Rattle.std.proofs.Math.Seq.{take-append_seam, drop-append_seam, drop-append-add}
use Rattle.std.specs.Cmp.{IsTotalOrder}
use Rattle.std.specs.List.{flat_map, remove, list_all}
use Rattle.std.specs.Ordering.{is_gt, is_eq, eq_by_cmp, ordering_reverse}
use Rattle.std.proofs.lemmas.List.{drop-set, length-append, set-get_or, take-append-drop, take-set}
use Rattle.sorted_pages.specs.declared.apply.Edit.{Edit}
use Rattle.sorted_pages.specs.declared.apply.Edit.TheVariants.{Remove}
use Rattle.sorted_pages.specs.Ranges.{IsMonotone, first_within}
use Rattle.sorted_pages.specs.Sorted.{IsRising, is_below, AllBelow}
use Rattle.sorted_pages.specs.Changes.{entry_of, entries_put, with_change, without_tied}
use Rattle.sorted_pages.specs.Edges.{ends_with, begins_with, first_passes, is_before_edge, is_none}
use Rattle.sorted_pages.proofs.Edges.{first, second}
use Rattle.sorted_pages.proofs.Flats.{flat_map-append}
use Rattle.sorted_pages.proofs.Orders.{greater_from, less_from, turned_greater, below_from, below_right, rising_left}
use Rattle.sorted_pages.proofs.Orders.{rising_right, rising_apart, all_pass, AllBelow-none, AllBelow_left}
use Rattle.sorted_pages.proofs.Parts.{laid_apart, laid_one, rising-with_changes}
use Rattle.sorted_pages.proofs.Steps.{less_all_below, rising_parts}

-- a fact of an answer that is no error, or of an error, that follows from another one
pub at_ok : {X Y : Type 0} {P Q : X → Type 0} (r : Result X Y) → ((x : X) → P x → Q x) → IfOk r P → IfOk r Q
at_ok (Ok x) f h = f x h
at_ok (Err y) f h = tt

pub at_err : {X Y P Q : Type 0} (r : Result X Y) → (P → Q) → OnErr r P → OnErr r Q
at_err (Ok x) f h = tt
at_err (Err y) f h = f h

-- an item in the place of another one
pub set_apart : {X : Type 0} (xs : List X) (i : ℕ) (y : X) → i < length xs → set xs i y ≡ take i xs ++ y ∷ drop (i + 1) xs
set_apart xs i y h = sym (take-append-drop i (set xs i y)) ∙ (λ j. take-set xs i y j ++ drop-set xs i y h j)

pub set_between : {X : Type 0} (items before from : List X) (y : X) → items ≡ before ++ from → length before < length items
    → set items (length before) y ≡ before ++ y ∷ drop 1 from
set_between items before from y e h =
    set_apart items (length before) y h
    ∙ (λ j. take (length before) (e j) ++ y ∷ drop (length before + 1) (e j))
    ∙ (λ j. take-append_seam before from j ++ y ∷ drop-append-add before from 1 j)

-- the same item in its place
pub set_again : {X : Type 0} (xs : List X) (i : ℕ) (x y : X) → y ≡ x → x ≡ get_or xs i x → set xs i y ≡ xs
set_again xs i x y e h = ap (set xs i) (e ∙ h) ∙ set-get_or xs i x

-- the item at the place where the others begin
pub there : {X : Type 0} (before from : List X) (b : X) → length before < length (before ++ from)
    → b ≡ get_or (before ++ from) (length before) b → from ≡ b ∷ drop 1 from
there [] [] b h e = absurd (omega (arith, h))
there [] (y ∷ ys) b h e = ap (λ z. z ∷ ys) (sym e)
there (x ∷ before) from b h e = there before from b (omega (arith, h)) e

pub items_there : {X : Type 0} (items before from : List X) (b : X) → items ≡ before ++ from → length before < length items
    → b ≡ get_or items (length before) b → items ≡ before ++ b ∷ drop 1 from
items_there items before from b e h eb =
    e ∙ ap (λ zs. before ++ zs)
    (there before from b (subst (λ zs. length before < length zs) e h) (eb ∙ ap (λ zs. get_or zs (length before) b) e))

-- the items without the one at the place where the others begin
pub with_out : {X : Type 0} (items before from : List X) (i : ℕ) (removed : List X) → items ≡ before ++ from → i ≡ length before
    → removed ≡ remove items i → removed ≡ before ++ drop 1 from
with_out items before from i removed e ei er =
    let next : suc i ≡ length before + 1 = omega (arith, ei) in
    er ∙ (λ j. take (ei j) (e j) ++ drop (next j) (e j))
    ∙ (λ j. take-append_seam before from j ++ drop-append-add before from 1 j)

pub passes_first : {X : Type 0} (p : X → Bool) (from : List X) → true ≡ first_passes p from → 0 < length from
passes_first p [] h = absurd (subst T h tt)
passes_first p (x ∷ xs) h = omega arith

pub with_passes : {X : Type 0} (p : X → Bool) (from tail : List X) (x : X) → from ≡ x ∷ tail → true ≡ first_passes p from → p x ≡ true
with_passes p from tail x e h = sym (h ∙ ap (first_passes p) e)

pub longer : {X : Type 0} (before from : List X) → 0 < length from → length before < length (before ++ from)
longer before from h = let all = length-append before from in omega (arith, h, all)

pub either_end : {X : Type 0} (n : Bool) (i j : ℕ) (xs : List X) → drop (cond n i j) xs ≡ cond n (drop i xs) (drop j xs)
either_end true i j xs = refl
either_end false i j xs = refl

module _ {E : Type 0} (R : E → E → Ordering) (o : IsTotalOrder R) where
  without_first : (x : E) (rest : List E) → cond (first_passes (λ e. eq_by_cmp R x e) rest) (drop 1 rest) rest ≡ without_tied R x rest
  without_first x [] = refl
  without_first x (e ∷ es) = refl

  -- it rises with the change made, and where it was not
  rises_made : (c : Edit E) (old new : List E) (made : Bool) → new ≡ cond made (with_change R c old) old → IsRising R old → IsRising R new
  rises_made c old new true e h = subst (IsRising R) (sym e) (rising-with_changes R o (c ∷ []) old h)
  rises_made c old new false e h = subst (IsRising R) (sym e) h

  pub rises_after : {X : Type 0} (c : Edit E) (old new : List E) (r : Result Bool X) → IfOk r (λ made. new ≡ cond made (with_change R c old) old)
      → OnErr r (new ≡ old) → IsRising R old → IsRising R new
  rises_after c old new (Ok made) e f h = rises_made c old new made e h
  rises_after c old new (Err x) e f h = subst (IsRising R) (sym f) h

  -- ---- an entry

  at_place : (c : Edit E) (less rest : List E) → IsRising R (less ++ rest)
      → T (ends_with (λ e. is_lt (R e (entry_of c))) less) → T (begins_with (λ e. not (is_lt (R e (entry_of c)))) rest)
      → less ++ (entries_put c ++ without_tied R (entry_of c) rest) ≡ with_change R c (less ++ rest)
  at_place c less rest h g b =
      sym (laid_one R o c [] less rest (less_all_below R o (entry_of c) less rest h g) (rising_right R less rest h) tt b)

  pub changed_at : (c : Edit E) (x : E) (items less rest after : List E) (place : ℕ) (ties made : Bool)
      → x ≡ entry_of c → items ≡ less ++ rest → IsRising R items
      → T (ends_with (λ e. is_lt (R e x)) less) → T (begins_with (λ e. not (is_lt (R e x))) rest)
      → place ≡ length less → ties ≡ first_passes (λ e. eq_by_cmp R x e) rest
      → after ≡ cond made (take place items ++ (entries_put c ++ drop (cond ties (place + 1) place) items)) items
      → after ≡ cond made (with_change R c items) items
  changed_at c x items less rest after place ties made ex ei h g b ep et ea =
      ea ∙ ap (λ es. cond made es items) (
      (λ i. take (ep i) (ei i) ++ (entries_put c ++ drop (cond ties (ep i + 1) (ep i)) (ei i)))
      ∙ ap (λ es. es ++ (entries_put c ++ drop (cond ties (length less + 1) (length less)) (less ++ rest))) (take-append_seam less rest)
      ∙ ap (λ es. less ++ (entries_put c ++ es)) (
      either_end ties (length less + 1) (length less) (less ++ rest)
      ∙ (λ i. cond ties (drop-append-add less rest 1 i) (drop-append_seam less rest i))
      ∙ ap (λ t. cond t (drop 1 rest) rest) et ∙ without_first x rest ∙ ap (λ y. without_tied R y rest) ex)
      ∙ at_place c less rest (subst (IsRising R) ei h) (subst (λ y. T (ends_with (λ e. is_lt (R e y)) less)) ex g)
      (subst (λ y. T (begins_with (λ e. not (is_lt (R e y))) rest)) ex b)
      ∙ ap (with_change R c) (sym ei))

  -- ---- an entry that is taken

  self_by : (r : Ordering) → r ≡ ordering_reverse r → r ≡ Equal
  self_by Less e = absurd (subst (λ s. T (is_lt s)) e tt)
  self_by Equal e = refl
  self_by Greater e = absurd (subst (λ s. T (is_gt s)) e tt)

  self_tied : (x : E) → R x x ≡ Equal
  self_tied x = self_by (R x x) (o.antisymm x x)

  pub taken : (x : E) (es before tail : List E) → es ≡ before ++ x ∷ tail → IsRising R es → before ++ tail ≡ with_change R (Remove x) es
  taken x es before tail e h =
      let rises : IsRising R (before ++ x ∷ tail) = subst (IsRising R) e h in
      sym (laid_one R o (Remove x) [] before (x ∷ tail) (AllBelow_left R before (x ∷ []) tail (rising_apart R before (x ∷ tail) rises))
      (rising_right R before (x ∷ tail) rises) tt (subst (λ r. T (not (is_lt r))) (sym (self_tied x)) tt)
      ∙ ap (λ t. before ++ cond (is_eq t) tail (x ∷ tail)) (self_tied x))
      ∙ ap (with_change R (Remove x)) (sym e)

  module _ (side : E → Ordering) (m : IsMonotone R side) where
    passed_over : (bs ys : List E) → T (list_all (λ e. is_lt (side e)) bs) → first_within side ys ≡ first_within side (bs ++ ys)
    passed_over [] ys h = refl
    passed_over (b ∷ bs) ys h =
        passed_over bs ys (second _ _ h)
        ∙ ap (λ r. cond (is_eq r) (Some b) (first_within side (bs ++ ys))) (sym (less_from _ (first _ _ h)))

    pub first_there : (x : E) (es before tail : List E) → es ≡ before ++ x ∷ tail → IsRising R es → T (ends_with (λ e. is_lt (side e)) before)
        → is_eq (side x) ≡ true → Some x ≡ first_within side es
    first_there x es before tail e h g t =
        let rises : IsRising R (before ++ x ∷ tail) = subst (IsRising R) e h in
        ap (λ b. cond b (Some x) (first_within side tail)) (sym t)
        ∙ passed_over before (x ∷ tail) (all_pass R (λ y. is_lt (side y)) m.before before (rising_left R before (x ∷ tail) rises) g)
        ∙ ap (first_within side) (sym e)

  -- ---- a block

  first_above : (c : E) (es rest : List E) → IsRising R (es ++ rest) → T (first_passes (λ e. is_gt (R e c)) es) → T (is_below R c (es ++ rest))
  first_above c [] rest h g = absurd g
  first_above c (e ∷ es) rest h g = below_from R o c e (es ++ rest) (turned_greater R o e c (greater_from _ g)) h

  module _ {B : Type 0} (v : B → List E) (c : E) (p : B → Bool) where
    all_above : (from : List B) → IsRising R (flat_map v from) → T (begins_with (λ b. first_passes (λ e. is_gt (R e c)) (v b)) from)
        → T (is_below R c (flat_map v from))
    all_above [] h g = tt
    all_above (b ∷ bs) h g = first_above c (v b) (flat_map v bs) h g

    either : (a b x y : Bool) {Y : Type 0} → T ((a && b) || (x && y)) → (T b → Y) → (T y → Y) → Y
    either true true x y h f g = f tt
    either true false true true h f g = g tt
    either true false true false h f g = absurd h
    either true false false y h f g = absurd h
    either false b true true h f g = g tt
    either false b true false h f g = absurd h
    either false b false y h f g = absurd h

    after_first : (f : B) (fs : List B) → T (is_below R c (flat_map v (f ∷ fs))) → T (is_below R c (flat_map v fs))
    after_first f fs h = below_right R c (v f) (flat_map v fs) h

    -- what stands after the item where an entry goes is greater
    pub after_place : (before from : List B) → IsRising R (flat_map v (before ++ from))
        → T (is_before_edge p (λ b. first_passes (λ e. is_gt (R e c)) (v b)) before from)
        → T (is_below R c (flat_map v (drop 1 from)))
    after_place before [] h g = tt
    after_place before (f ∷ fs) h g =
        let rises : IsRising R (flat_map v (f ∷ fs)) =
        rising_right R (flat_map v before) (flat_map v (f ∷ fs)) (subst (IsRising R) (flat_map-append v before (f ∷ fs)) h) in
        either (is_none before) _ (p f) _ g
        (λ a. after_first f fs (all_above (f ∷ fs) rises a))
        (λ a. all_above fs (rising_right R (v f) (flat_map v fs) rises) a)

  module _ {B : Type 0} (v : B → List E) where
    pub changed_in : (d : Edit E) (x : E) (before : List B) (b b' : B) (rest : List B) (made : Bool) → x ≡ entry_of d
        → AllBelow R (flat_map v before) (x ∷ []) → T (is_below R x (flat_map v rest))
        → v b' ≡ cond made (with_change R d (v b)) (v b)
        → flat_map v (before ++ b' ∷ rest) ≡ cond made (with_change R d (flat_map v (before ++ b ∷ rest))) (flat_map v (before ++ b ∷ rest))
    changed_in d x before b b' rest true ex a t e =
        flat_map-append v before (b' ∷ rest) ∙ ap (λ es. flat_map v before ++ (es ++ flat_map v rest)) e
        ∙ sym (laid_apart R o (d ∷ []) [] (flat_map v before) (v b) (flat_map v rest) (subst (λ y. AllBelow R (flat_map v before) (y ∷ [])) ex a)
        (subst (λ y. T (is_below R y (flat_map v rest))) ex t, tt) (AllBelow-none R (v b)) (tt, tt))
        ∙ ap (with_change R d) (sym (flat_map-append v before (b ∷ rest)))
    changed_in d x before b b' rest false ex a t e =
        flat_map-append v before (b' ∷ rest) ∙ ap (λ es. flat_map v before ++ (es ++ flat_map v rest)) e ∙ sym (flat_map-append v before (b ∷ rest))

    pub changed_at_place : {X : Type 0} (d : Edit E) (x : E) (items before from : List B) (b b' : B) (r : Result Bool X) → x ≡ entry_of d
        → items ≡ before ++ from → length before < length items → b ≡ get_or items (length before) b
        → AllBelow R (flat_map v before) (x ∷ []) → T (is_below R x (flat_map v (drop 1 from)))
        → IfOk r (λ made. v b' ≡ cond made (with_change R d (v b)) (v b))
        → IfOk r (λ made. flat_map v (set items (length before) b') ≡ cond made (with_change R d (flat_map v items)) (flat_map v items))
    changed_at_place d x items before from b b' r ex ei hi eb a t e =
        at_ok r (λ made em. ap (flat_map v) (set_between items before from b' ei hi)
        ∙ changed_in d x before b b' (drop 1 from) made ex a t em
        ∙ ap (λ zs. cond made (with_change R d (flat_map v zs)) (flat_map v zs)) (sym (items_there items before from b ei hi eb))) e

    pub rises_there : (items before from : List B) (b : B) → IsRising R (flat_map v items) → items ≡ before ++ from
        → length before < length items → b ≡ get_or items (length before) b → IsRising R (v b)
    rises_there items before from b h ei hi eb =
        (rising_parts R o (flat_map v before) (v b) (flat_map v (drop 1 from)) (flat_map v items)
        (ap (flat_map v) (items_there items before from b ei hi eb) ∙ flat_map-append v before (b ∷ drop 1 from)) h).0
