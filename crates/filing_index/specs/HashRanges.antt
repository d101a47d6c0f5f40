-- The entries of one hash whose identifiers are greater than one stand next to one another.
use Rattle.std.proofs.Common.{◌≡◌, ◌∙◌, ap, sym, refl, ℕ, Bool, true, false, cond, Option, Some, None, Ordering}
use Rattle.std.proofs.Common.{Less, Equal, Greater, is_lt, true≢false}
use Rattle.std.specs.Ordering.{nat_cmp, ordering_then, ordering_reverse, is_gt, on, then_cmp}
use Rattle.std.specs.Cmp.{IsTotalOrder, alike_right, nat_cmp_total}
use Rattle.std.specs.Cmp.Lexicographic.{nat_list_cmp_total}
use Rattle.sorted_pages.specs.Ranges.{IsMonotone}
use Rattle.filing_model.specs.Common.Text.{Text, text_cmp}
use Rattle.filing_model.specs.Sessions.Queries.{is_after}
use Rattle.filing_index.specs.Index.{hashed_cmp}
use Rattle.filing_index.specs.Found.{side_after, side_of}

never_past : (b : Bool) → is_gt (cond b Equal Less) ≡ false
never_past true = refl
never_past false = refl

after_is_monotone : (after : Option Text) → IsMonotone text_cmp (side_after after)
after_is_monotone None =
    record { before = λ x y l h. absurd (true≢false (sym h)); until = λ x y l h. absurd (true≢false (sym h)) }
after_is_monotone (Some last) = record {
  before = λ x y l h. later x y l (text_cmp last x) refl h;
  until = λ x y l h. absurd (true≢false (sym h ∙ never_past (is_after (Some last) x)));
}
  where
    later : (x y : Text) → text_cmp x y ≡ Less → (o : Ordering) → text_cmp last x ≡ o
        → is_lt (side_after (Some last) y) ≡ true → is_lt (cond (is_lt o) Equal Less) ≡ true
    later x y l Less is h =
        let past : is_lt (text_cmp last y) ≡ true = ap is_lt (nat_list_cmp_total.trans last x y is l) in
        absurd (true≢false (sym h ∙ ap (λ b. is_lt (cond b Equal Less)) past))
    later x y l Equal is h = refl
    later x y l Greater is h = refl

-- pairs in the order of their first parts and then of their second:
-- those that tie with a first part, in a range of second parts
module _ {A B : Type 0} (R : A → A → Ordering) (o : IsTotalOrder R) (S : B → B → Ordering) (a : A) (side : B → Ordering)
    (m : IsMonotone S side) where
  lower : (x y : A × B) (r s : Ordering) → R x.0 y.0 ≡ r → R y.0 a ≡ s → ordering_then r (S x.1 y.1) ≡ Less
      → is_lt (ordering_then s (side y.1)) ≡ true → is_lt (ordering_then (R x.0 a) (side x.1)) ≡ true
  lower x y Less Less xy ya l h = ap (λ t. is_lt (ordering_then t (side x.1))) (o.trans x.0 y.0 a xy ya)
  lower x y Less Equal xy ya l h = ap (λ t. is_lt (ordering_then t (side x.1))) (sym (alike_right o y.0 a x.0 ya) ∙ xy)
  lower x y Less Greater xy ya l h = absurd (true≢false (sym h))
  lower x y Equal Less xy ya l h = ap (λ t. is_lt (ordering_then t (side x.1))) (o.congr x.0 y.0 a xy ∙ ya)
  lower x y Equal Equal xy ya l h = ap (λ t. is_lt (ordering_then t (side x.1))) (o.congr x.0 y.0 a xy ∙ ya)
      ∙ m.before x.1 y.1 l h
  lower x y Equal Greater xy ya l h = absurd (true≢false (sym h))
  lower x y Greater s xy ya l h = absurd (true≢false (sym (ap is_lt l)))

  upper : (x y : A × B) (r s : Ordering) → R x.0 y.0 ≡ r → R x.0 a ≡ s → ordering_then r (S x.1 y.1) ≡ Less
      → is_gt (ordering_then s (side x.1)) ≡ true → is_gt (ordering_then (R y.0 a) (side y.1)) ≡ true
  upper x y Less Less xy xa l h = absurd (true≢false (sym h))
  upper x y Less Equal xy xa l h = ap (λ t. is_gt (ordering_then t (side y.1)))
      (o.antisymm y.0 a ∙ ap ordering_reverse (sym (o.congr x.0 a y.0 xa) ∙ xy))
  upper x y Less Greater xy xa l h =
      ap (λ t. is_gt (ordering_then t (side y.1)))
      (o.antisymm y.0 a ∙ ap ordering_reverse (o.trans a x.0 y.0 (o.antisymm a x.0 ∙ ap ordering_reverse xa) xy))
  upper x y Equal Less xy xa l h = absurd (true≢false (sym h))
  upper x y Equal Equal xy xa l h = ap (λ t. is_gt (ordering_then t (side y.1))) (sym (o.congr x.0 y.0 a xy) ∙ xa)
      ∙ m.until x.1 y.1 l h
  upper x y Equal Greater xy xa l h = ap (λ t. is_gt (ordering_then t (side y.1))) (sym (o.congr x.0 y.0 a xy) ∙ xa)
  upper x y Greater s xy xa l h = absurd (true≢false (sym (ap is_lt l)))

  both_are_monotone : IsMonotone {E = A × B} (then_cmp (on (λ e. e.0) R) (on (λ e. e.1) S))
      (λ e. ordering_then (R e.0 a) (side e.1))
  both_are_monotone = record {
    before = λ x y l h. lower x y (R x.0 y.0) (R y.0 a) refl refl l h;
    until = λ x y l h. upper x y (R x.0 y.0) (R x.0 a) refl refl l h;
  }

pub side_is_monotone : (hash : ℕ) (after : Option Text) → IsMonotone hashed_cmp (side_of hash after)
side_is_monotone hash after =
    let m = both_are_monotone nat_cmp nat_cmp_total text_cmp hash (side_after after) (after_is_monotone after) in
    record { before = λ x y l h. m.before x.0 y.0 l h; until = λ x y l h. m.until x.0 y.0 l h }

-- all entries are a range
pub all_is_monotone : IsMonotone hashed_cmp (λ e. Equal)
all_is_monotone = record { before = λ x y l h. h; until = λ x y l h. h }
