-- What is found in a sorted list after changes: what the change of its key puts there, or else what stood there.
use Rattle.std.proofs.Common.{◌≡◌, ◌∙◌, ap, sym, refl, Bool, true, false, cond, not, List, [], ◌∷◌, map, Option, None, Some, Ordering, Less}
use Rattle.std.proofs.Common.{Equal, Greater, is_eq, true≢false}
use Rattle.std.specs.Prelude.{unwrap_or}
use Rattle.std.specs.Ordering.{on, eq_by_cmp}
use Rattle.std.specs.Cmp.{IsTotalOrder, Equal-is, alike_right}
use Rattle.std.specs.List.{IsDistinct}
use Rattle.std.specs.FinMap.Entries.{by_order, find, put, where_key}
use Rattle.sorted_pages.specs.declared.apply.Edit.{Edit}
use Rattle.sorted_pages.specs.declared.apply.Edit.TheVariants.{Put, Remove}
use Rattle.sorted_pages.specs.Sorted.{keyed, entries}
use Rattle.sorted_pages.specs.Changes.{entry_of, with_change, with_changes}
use Rattle.sorted_pages.proofs.Parts.{entries-keyed}
use Rattle.filing_index.proofs.DistinctKeys.{ties, tied_nowhere}

shadowed : {A : Type 0} (b : Bool) (x y z : A) → cond b x z ≡ cond b x (cond b y z)
shadowed true x y z = refl
shadowed false x y z = refl

swapped : {A : Type 0} (a b : Bool) (x y z : A) → (a ≡ true → b ≡ true → ⊥) → cond a x (cond b y z) ≡ cond b y (cond a x z)
swapped true true x y z apart = absurd (apart refl refl)
swapped true false x y z apart = refl
swapped false b x y z apart = refl

-- what stands at its key after a change
abbrev pub left_by : {K X : Type 0} → Edit (K × X) → Option X
left_by (Put e) = Some e.1
left_by (Remove e) = None

abbrev pub change_entry : {K X : Type 0} → Edit (K × X) → K × Option X
change_entry c = ((entry_of c).0, left_by c)

-- two keys of which one ties with q and the other does not
one_tie : {K : Type 0} (R : K → K → Ordering) → IsTotalOrder R → (q x y : K) (t : Ordering) → R x y ≡ t → is_eq t ≡ false
    → eq_by_cmp R q x ≡ true → eq_by_cmp R q y ≡ true → ⊥
one_tie R o q x y t e n a b =
    let tied : R x y ≡ Equal = sym (o.congr q x y ((Equal-is (R q x)).0 a)) ∙ (Equal-is (R q y)).0 b in
    true≢false (sym (ap is_eq tied) ∙ ap is_eq e ∙ n)

module _ {K X : Type 0} (R : K → K → Ordering) (o : IsTotalOrder R) where
  -- by the keys of the entries
  abbrev pub entry_cmp : K × X → K × X → Ordering
  entry_cmp = on (λ e. e.0) R

  found-put : (c : K × X) (es : List (K × X)) (q : K) → find R q (entries (put entry_cmp c c (keyed es))) ≡ cond (eq_by_cmp R q c.0) (Some c.1) (find R q es)
  found-put c [] q = refl
  found-put c (e ∷ es) q =
      elim (R c.0 e.0) as (λ r. R c.0 e.0 ≡ r
      → find R q (entries (by_order r ((c, c) ∷ (e, e) ∷ keyed es) ((e, c) ∷ keyed es) ((e, e) ∷ put entry_cmp c c (keyed es))))
      ≡ cond (eq_by_cmp R q c.0) (Some c.1) (find R q (e ∷ es))) [
        | Less ↦ λ _. ap (λ xs. cond (eq_by_cmp R q c.0) (Some c.1) (find R q (e ∷ xs))) (entries-keyed es)
        | Equal ↦ λ t.
            ap (λ xs. cond (eq_by_cmp R q c.0) (Some c.1) (find R q xs)) (entries-keyed es)
            ∙ shadowed (eq_by_cmp R q c.0) (Some c.1) (Some e.1) (find R q es)
            ∙ ap (λ r. cond (eq_by_cmp R q c.0) (Some c.1) (cond (is_eq r) (Some e.1) (find R q es))) (alike_right o c.0 e.0 q t)
        | Greater ↦ λ g.
            ap (λ x. cond (eq_by_cmp R q e.0) (Some e.1) x) (found-put c es q)
            ∙ swapped _ _ _ _ _ (λ a b. one_tie R o q c.0 e.0 Greater g refl b a)
      ] refl

  left_in : (e : K × X) (es : List (K × X)) (c : K × X) (q : K) (left : List (K × X)) (r : Ordering) → R c.0 e.0 ≡ r → is_eq r ≡ false
      → find R q left ≡ cond (eq_by_cmp R q c.0) None (find R q es)
      → find R q (e ∷ left) ≡ cond (eq_by_cmp R q c.0) None (find R q (e ∷ es))
  left_in e es c q left r g n rest =
      ap (λ x. cond (eq_by_cmp R q e.0) (Some e.1) x) rest
      ∙ swapped _ _ _ _ _ (λ a b. one_tie R o q c.0 e.0 r g n b a)

  found-remove : (c : K × X) (es : List (K × X)) (q : K)
      → find R q (entries (where_key entry_cmp (λ k. not (eq_by_cmp entry_cmp c k)) (keyed es))) ≡ cond (eq_by_cmp R q c.0) None (find R q es)
  found-remove c [] q = elim (eq_by_cmp R q c.0) as (λ b. ◌≡◌ {A = Option X} None (cond b None None)) [ true ↦ refl | false ↦ refl ]
  found-remove c (e ∷ es) q =
      let left = where_key entry_cmp (λ k. not (eq_by_cmp entry_cmp c k)) (keyed es) in
      let rest = found-remove c es q in
      elim (R c.0 e.0) as (λ r. R c.0 e.0 ≡ r
      → find R q (entries (cond (not (is_eq r)) ((e, e) ∷ left) left)) ≡ cond (eq_by_cmp R q c.0) None (find R q (e ∷ es))) [
        | Less ↦ λ l. left_in e es c q (entries left) Less l refl rest
        | Equal ↦ λ t.
            rest ∙ shadowed (eq_by_cmp R q c.0) None (Some e.1) (find R q es)
            ∙ ap (λ r. cond (eq_by_cmp R q c.0) None (cond (is_eq r) (Some e.1) (find R q es))) (alike_right o c.0 e.0 q t)
        | Greater ↦ λ g. left_in e es c q (entries left) Greater g refl rest
      ] refl

  found-with_change : (c : Edit (K × X)) (es : List (K × X)) (q : K)
      → find R q (with_change entry_cmp c es) ≡ cond (eq_by_cmp R q (entry_of c).0) (left_by c) (find R q es)
  found-with_change (Put c) es q = found-put c es q
  found-with_change (Remove c) es q = found-remove c es q

  pub found-with_changes : (cs : List (Edit (K × X))) (es : List (K × X)) (q : K) → IsDistinct (ties R change_entry) cs
      → find R q (with_changes entry_cmp cs es) ≡ unwrap_or (find R q (map change_entry cs)) (find R q es)
  unfolding IsDistinct
  found-with_changes [] es q d = refl
  found-with_changes (c ∷ cs) es q d =
      found-with_changes cs (with_change entry_cmp c es) q d.1
      ∙ ap (unwrap_or (find R q (map change_entry cs))) (found-with_change c es q)
      ∙ elim (eq_by_cmp R q (entry_of c).0) as (λ b. eq_by_cmp R q (entry_of c).0 ≡ b
      → unwrap_or (find R q (map change_entry cs)) (cond b (left_by c) (find R q es))
      ≡ unwrap_or (cond b (Some (left_by c)) (find R q (map change_entry cs))) (find R q es)) [
        | true ↦ λ t. ap (λ x. unwrap_or x (left_by c)) (tied_nowhere R change_entry o q (entry_of c).0 cs t d.0)
        | false ↦ λ _. refl
      ] refl
