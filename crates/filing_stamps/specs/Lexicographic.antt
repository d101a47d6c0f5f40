-- Ranges in a lexicographic order.
use Rattle.std.proofs.Common.{◌≡◌, ◌∙◌, ap, sym, refl, true≢false, true, Ordering, Less, Equal, Greater, is_lt}
use Rattle.std.specs.Cmp.{IsTotalOrder, alike_right}
use Rattle.std.specs.Ordering.{on, then_cmp, ordering_then, ordering_reverse, is_gt}
use Rattle.sorted_pages.specs.Ranges.{IsMonotone}

module _ {E G : Type 0} (g : E → G) {C : G → G → Ordering} (o : IsTotalOrder C)
    (q : G) {R : E → E → Ordering} {side : E → Ordering} (m : IsMonotone R side) where
  before_by : (x y : E) (r s : Ordering) → C (g x) (g y) ≡ r → C (g y) q ≡ s → ordering_then r (R x y) ≡ Less
      → is_lt (ordering_then s (side y)) ≡ true
      → is_lt (ordering_then (C (g x) q) (side x)) ≡ true
  before_by x y Less Less p t l h = ap (λ r. is_lt (ordering_then r (side x))) (o.trans (g x) (g y) q p t)
  before_by x y Less Equal p t l h = ap (λ r. is_lt (ordering_then r (side x)))
      (sym (alike_right o (g y) q (g x) t) ∙ p)
  before_by x y Equal Less p t l h = ap (λ r. is_lt (ordering_then r (side x))) (o.congr (g x) (g y) q p ∙ t)
  before_by x y Equal Equal p t l h = ap (λ r. is_lt (ordering_then r (side x))) (o.congr (g x) (g y) q p ∙ t)
      ∙ m.before x y l h
  before_by x y Greater s p t l h = absurd (true≢false (ap is_gt l))
  before_by x y r Greater p t l h = absurd (true≢false (sym h))

  -- what stands below one past the range is past it too
  past_by : (x y : E) (r s : Ordering) → C (g x) (g y) ≡ r → C (g x) q ≡ s → ordering_then r (R x y) ≡ Less
      → is_gt (ordering_then s (side x)) ≡ true
      → is_gt (ordering_then (C (g y) q) (side y)) ≡ true
  past_by x y Less Equal p t l h =
      ap (λ r. is_gt (ordering_then r (side y))) (o.antisymm (g y) q
      ∙ ap ordering_reverse (sym (o.congr (g x) q (g y) t) ∙ p))
  past_by x y Less Greater p t l h =
      ap (λ r. is_gt (ordering_then r (side y)))
      (o.antisymm (g y) q ∙ ap ordering_reverse (o.trans q (g x) (g y) (o.antisymm q (g x) ∙ ap ordering_reverse t) p))
  past_by x y Equal Equal p t l h = ap (λ r. is_gt (ordering_then r (side y))) (sym (o.congr (g x) (g y) q p) ∙ t)
      ∙ m.until x y l h
  past_by x y Equal Greater p t l h = ap (λ r. is_gt (ordering_then r (side y))) (sym (o.congr (g x) (g y) q p) ∙ t)
  past_by x y Greater s p t l h = absurd (true≢false (ap is_gt l))
  past_by x y r Less p t l h = absurd (true≢false (sym h))

  -- a range among those that tie with q first
  pub then_monotone : IsMonotone (then_cmp (on g C) R) (λ e. ordering_then (C (g e) q) (side e))
  then_monotone = record {
    before = λ x y l h. before_by x y (C (g x) (g y)) (C (g y) q) refl refl l h;
    until = λ x y l h. past_by x y (C (g x) (g y)) (C (g x) q) refl refl l h;
  }
