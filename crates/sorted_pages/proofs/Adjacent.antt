-- A list rises where each entry is less than the next one.
use Rattle.std.proofs.Common.{◌≡◌, ◌∙◌, ap, sym, subst, refl, Bool, true, false, ◌&&◌, T, List, [], ◌∷◌, Ordering, is_lt}
use Rattle.std.specs.Cmp.{IsTotalOrder}
use Rattle.std.specs.FinMap.Entries.{is_sorted}
use Rattle.sorted_pages.specs.Sorted.{keyed, is_below}
use Rattle.sorted_pages.specs.Edges.{begins_with}
use Rattle.sorted_pages.proofs.Orders.{less_from, true_from, holds_from, below_from}

and_false : (b : Bool) → (b && false) ≡ false
and_false true = refl
and_false false = refl

module _ {E : Type 0} (R : E → E → Ordering) (o : IsTotalOrder R) where
  rises_on : (x : E) (es : List E) → begins_with (λ e. is_lt (R x e)) es ≡ true → is_sorted R (keyed es) ≡ is_sorted R (keyed (x ∷ es))
  rises_on x [] h = refl
  rises_on x (y ∷ ys) h =
      elim (is_sorted R (keyed (y ∷ ys))) as (λ b. is_sorted R (keyed (y ∷ ys)) ≡ b → b ≡ (is_below R x (y ∷ ys) && b)) [
        | true ↦ λ e. sym (ap (λ b. b && true) (true_from _ (below_from R o x y ys (less_from _ (holds_from _ h)) (holds_from _ e))))
        | false ↦ λ e. sym (and_false (is_below R x (y ∷ ys)))
      ] refl

  falls_at : (x : E) (es : List E) → begins_with (λ e. is_lt (R x e)) es ≡ false → false ≡ is_sorted R (keyed (x ∷ es))
  falls_at x [] h = absurd (subst T h tt)
  falls_at x (y ∷ ys) h = sym (ap (λ b. (b && is_below R x ys) && is_sorted R (keyed (y ∷ ys))) h)

  -- one more entry, by the answer of a test
  pub rising_more : (left es : List E) (x : E) (b all : Bool) → left ≡ x ∷ es → b ≡ begins_with (λ e. is_lt (R x e)) es → b ≡ true
      → is_sorted R (keyed left) ≡ all → is_sorted R (keyed es) ≡ all
  rising_more left es x b all e t h a = rises_on x es (sym t ∙ h) ∙ sym (ap (λ l. is_sorted R (keyed l)) e) ∙ a

  pub rising_no_more : (left es : List E) (x : E) (b all : Bool) → left ≡ x ∷ es → b ≡ begins_with (λ e. is_lt (R x e)) es → b ≡ false
      → is_sorted R (keyed left) ≡ all → false ≡ all
  rising_no_more left es x b all e t h a = falls_at x es (sym t ∙ h) ∙ sym (ap (λ l. is_sorted R (keyed l)) e) ∙ a
