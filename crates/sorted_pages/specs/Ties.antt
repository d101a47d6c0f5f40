-- What ties with an entry is a range.
use Rattle.std.specs.Prelude.{◌≡◌, Bool, true, false, cond, not, ◌||◌, T}
use Rattle.std.proofs.Common.{◌∙◌, ap, sym, subst, refl}
use Rattle.std.specs.Ordering.{is_lt, is_gt}
use Rattle.std.specs.Cmp.{IsTotalOrder, alike_right}
use Rattle.std.specs.declared.cmp.Ordering.{Ordering}
use Rattle.std.specs.declared.cmp.Ordering.TheVariants.{Less, Equal, Greater}
use Rattle.sorted_pages.specs.Ranges.{IsMonotone}

is_less : (r : Ordering) → is_lt r ≡ true → r ≡ Less
is_less Less h = refl
is_less Equal h = absurd (subst T (sym h) tt)
is_less Greater h = absurd (subst T (sym h) tt)

module _ {E : Type 0} (R : E → E → Ordering) (o : IsTotalOrder R) where
  after_greater : (q x y : E) → R x y ≡ Less → (r : Ordering) → R y q ≡ r → is_gt (R x q) ≡ true → is_gt r ≡ true
  after_greater q x y l Less e h =
      let f : false ≡ true = sym (ap is_gt (o.trans x y q l e)) ∙ h in
      absurd (subst T (sym f) tt)
  after_greater q x y l Equal e h =
      let f : false ≡ true = sym (ap is_gt (sym (alike_right o y q x e) ∙ l)) ∙ h in
      absurd (subst T (sym f) tt)
  after_greater q x y l Greater e h = refl

  pub tie_is_monotone : (q : E) → IsMonotone R (λ e. R e q)
  tie_is_monotone q = record {
    before = λ x y l h. ap is_lt (o.trans x y q l (is_less (R y q) h));
    until = λ x y l h. after_greater q x y l (R y q) refl h;
  }

-- the side of an entry in the range from one entry on up to another
abbrev pub between : {E : Type 0} → (E → E → Ordering) → E → E → E → Ordering
between R low high e = cond (is_lt (R e low)) Less (cond (is_lt (R e high)) Equal Greater)

lt_between : (b c : Bool) → is_lt (cond b Less (cond c Equal Greater)) ≡ b
lt_between true c = refl
lt_between false true = refl
lt_between false false = refl

gt_between : (b c : Bool) → is_gt (cond b Less (cond c Equal Greater)) ≡ not (b || c)
gt_between true c = refl
gt_between false true = refl
gt_between false false = refl

neither : (a b c d : Bool) → (c ≡ true → a ≡ true) → (d ≡ true → b ≡ true) → not (a || b) ≡ true → not (c || d) ≡ true
neither a b false false f g h = refl
neither a b true d f g h =
    let wrong : false ≡ true = sym (ap (λ x. not (x || b)) (f refl)) ∙ h in
    absurd (subst T (sym wrong) tt)
neither true b false true f g h = absurd (subst T (sym h) tt)
neither false b false true f g h =
    let wrong : false ≡ true = sym (ap not (g refl)) ∙ h in
    absurd (subst T (sym wrong) tt)

module _ {E : Type 0} (R : E → E → Ordering) (o : IsTotalOrder R) where
  stays_less : (q x y : E) → R x y ≡ Less → is_lt (R y q) ≡ true → is_lt (R x q) ≡ true
  stays_less q x y l h = ap is_lt (o.trans x y q l (is_less (R y q) h))

  pub between_is_monotone : (low high : E) → IsMonotone R (between R low high)
  between_is_monotone low high = record {
    before = λ x y l h.
        lt_between (is_lt (R x low)) (is_lt (R x high))
        ∙ stays_less low x y l (sym (lt_between (is_lt (R y low)) (is_lt (R y high))) ∙ h);
    until = λ x y l h.
        gt_between (is_lt (R y low)) (is_lt (R y high))
        ∙ neither (is_lt (R x low)) (is_lt (R x high)) (is_lt (R y low)) (is_lt (R y high))
        (stays_less low x y l) (stays_less high x y l) (sym (gt_between (is_lt (R x low)) (is_lt (R x high))) ∙ h);
  }
