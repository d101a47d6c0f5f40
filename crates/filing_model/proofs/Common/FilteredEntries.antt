-- The entries of a sorted list that pass a test of key and value: they are sorted, and a look-up finds what passes.
use Rattle.std.proofs.Common.{◌≡◌, ◌∙◌, ap, sym, refl, subst, Bool, true, false, cond, T, List, [], ◌∷◌, Option, Some, None, Ordering, Equal, filter, is_eq, is_lt}
use Rattle.std.specs.Cmp.{Equal-is}
use Rattle.std.specs.Ordering.{eq_by_cmp}
use Rattle.std.specs.FinMap.Entries.{find, is_sorted, below_all}
use Rattle.filing_model.proofs.Common.Tests.{both_hold, first_holds, second_holds, less_from_is_lt}

-- the value where it passes the test
abbrev pub only : {X : Type 0} → (X → Bool) → Option X → Option X
only test None = None
only test (Some x) = cond (test x) (Some x) None

module _ {K X : Type 0} (R : K → K → Ordering) (test : K → X → Bool) where
  abbrev pub those : List (K × X) → List (K × X)
  those es = filter (λ e. test e.0 e.1) es

  below-filter : (x : K) (es : List (K × X)) → T (below_all R x es) → T (below_all R x (those es))
  below-filter x [] h = tt
  below-filter x (e ∷ es) h =
      let rest = below-filter x es (second_holds (is_lt (R x e.0)) (below_all R x es) h) in
      elim (test e.0 e.1) as (λ b. T (below_all R x (cond b (e ∷ those es) (those es)))) [
        | true ↦ both_hold _ _ (first_holds (is_lt (R x e.0)) (below_all R x es) h) rest
        | false ↦ rest
      ]

  pub sorted-filter : (es : List (K × X)) → T (is_sorted R es) → T (is_sorted R (those es))
  sorted-filter [] h = tt
  sorted-filter (e ∷ es) h =
      let rest = sorted-filter es (second_holds (below_all R e.0 es) (is_sorted R es) h) in
      elim (test e.0 e.1) as (λ b. T (is_sorted R (cond b (e ∷ those es) (those es)))) [
        | true ↦ both_hold _ _ (below-filter e.0 es (first_holds (below_all R e.0 es) (is_sorted R es) h)) rest
        | false ↦ rest
      ]

  -- a key below all keys is none of them
  below_is_none : (q : K) (es : List (K × X)) → T (below_all R q es) → find R q es ≡ None
  below_is_none q [] h = refl
  below_is_none q (e ∷ es) h =
      ap (λ o. cond (is_eq o) (Some e.1) (find R q es)) (less_from_is_lt (R q e.0) (first_holds _ _ h)) ∙ below_is_none q es (second_holds _ _ h)

  -- where keys that tie are one
  module _ (exact : (x y : K) → R x y ≡ Equal → x ≡ y) where
    one : (q k : K) → eq_by_cmp R q k ≡ true → q ≡ k
    one q k same = exact q k ((Equal-is (R q k)).0 same)

    found : (q : K) (e : K × X) (es : List (K × X)) → T (below_all R e.0 es) → (t b : Bool) → eq_by_cmp R q e.0 ≡ t → test e.0 e.1 ≡ b
        → find R q (those es) ≡ only (test q) (find R q es)
        → find R q (cond b (e ∷ those es) (those es)) ≡ only (test q) (cond t (Some e.1) (find R q es))
    found q e es below true true same passes rest =
        ap (λ t. cond t (Some e.1) (find R q (those es))) same
        ∙ sym (ap (λ b. cond b (Some e.1) None) (ap (λ k. test k e.1) (one q e.0 same) ∙ passes))
    found q e es below true false same fails rest =
        let gone : find R q es ≡ None = subst (λ k. find R k es ≡ None) (sym (one q e.0 same)) (below_is_none e.0 es below) in
        rest ∙ ap (only (test q)) gone
        ∙ sym (ap (λ b. cond b (Some e.1) None) (ap (λ k. test k e.1) (one q e.0 same) ∙ fails))
    found q e es below false true other passes rest = ap (λ t. cond t (Some e.1) (find R q (those es))) other ∙ rest
    found q e es below false false other fails rest = rest

    pub find-filter : (q : K) (es : List (K × X)) → T (is_sorted R es) → find R q (those es) ≡ only (test q) (find R q es)
    find-filter q [] h = refl
    find-filter q (e ∷ es) h =
        found q e es (first_holds (below_all R e.0 es) (is_sorted R es) h) (eq_by_cmp R q e.0) (test e.0 e.1) refl refl
        (find-filter q es (second_holds (below_all R e.0 es) (is_sorted R es) h))
