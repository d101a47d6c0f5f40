-- Stamps that tie stand alike to a range of stamps.
use Rattle.std.proofs.Common.{◌≡◌, ◌∙◌, ap, sym, refl, ◌&&◌, Bool, true, false, Equal, is_eq}
use Rattle.std.specs.Cmp.{nat_cmp_total, tied_itself, tied_then}
use Rattle.std.specs.Ordering.{nat_cmp, ordering_then}
use Rattle.filing_model.specs.Common.Text.{text_cmp}
use Rattle.filing_model.proofs.Common.Texts.{text_cmp-Equal}
use Rattle.filing_model.proofs.Common.Tests.{both_are_equal}
use Rattle.filing_stamps.specs.Stamps.{group_cmp, Stamp, stamp_cmp, Among, among_side, ids_side}
use Rattle.filing_stamps.specs.StampOrders.{group_cmp-total}

pub among_alike : (among : Among) (x y : Stamp) → stamp_cmp x y ≡ Equal → among_side among x ≡ among_side among y
among_alike among x y e =
    let codes = both_are_equal (nat_cmp x.code y.code) _ e in
    let ranks = both_are_equal (nat_cmp x.rank y.rank) _ codes.1 in
    let groups = both_are_equal (group_cmp x.group y.group) _ ranks.1 in
    λ i. ordering_then (nat_cmp_total.congr x.code y.code among.code codes.0 i)
    (ordering_then (nat_cmp_total.congr x.rank y.rank among.rank ranks.0 i)
    (ordering_then (group_cmp-total.congr x.group y.group among.group groups.0 i) (ids_side among.ids (text_cmp-Equal x.id y.id groups.1 i))))

-- which of two comparisons is looked at first decides nothing
turned : (a b : Bool) → (a && b) ≡ (b && a)
turned true true = refl
turned true false = refl
turned false true = refl
turned false false = refl

pub alike : (x y : Stamp) → x.code ≡ y.code → x.rank ≡ y.rank
    → (is_eq (text_cmp x.id y.id) && is_eq (group_cmp x.group y.group)) ≡ is_eq (stamp_cmp x y)
alike x y e f =
    turned (is_eq (text_cmp x.id y.id)) (is_eq (group_cmp x.group y.group)) ∙ tied_then (group_cmp x.group y.group) (text_cmp x.id y.id)
    ∙ sym (λ i. is_eq (ordering_then (codes i) (ordering_then (ranks i) (ordering_then (group_cmp x.group y.group) (text_cmp x.id y.id)))))
  where
    codes : nat_cmp x.code y.code ≡ Equal
    codes = ap (nat_cmp x.code) (sym e) ∙ tied_itself nat_cmp_total x.code

    ranks : nat_cmp x.rank y.rank ≡ Equal
    ranks = ap (nat_cmp x.rank) (sym f) ∙ tied_itself nat_cmp_total x.rank
