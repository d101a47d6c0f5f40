-- The order of stamps is total, and the stamps of a part are a range in it.
use Rattle.std.proofs.Common.{◌≡◌, ◌∙◌, ap, sym, refl, true≢false, Bool, true, false, cond, not, Option, Some, None}
use Rattle.std.proofs.Common.{Ordering, Less, Equal, Greater, is_lt}
use Rattle.std.specs.Cmp.{IsTotalOrder, on_total, then_total, nat_cmp_total}
use Rattle.std.specs.Cmp.Lexicographic.{nat_list_cmp_total, options_total}
use Rattle.std.specs.Ordering.{on, is_gt}
use Rattle.sorted_pages.specs.Ranges.{IsMonotone}
use Rattle.sorted_pages.specs.Ties.{tie_is_monotone}
use Rattle.filing_model.specs.Common.Text.{Text, text_cmp}
use Rattle.filing_model.specs.Sessions.Queries.{is_after}
use Rattle.filing_model.proofs.Oim.DimensionSets.{dims_cmp-total}
use Rattle.filing_stamps.specs.Stamps.{group_cmp, Stamp, stamp_cmp, IdRange, Only, Between, is_upto, ids_side, Among}
use Rattle.filing_stamps.specs.Stamps.{among_side}
use Rattle.filing_stamps.specs.Lexicographic.{then_monotone}

pub group_cmp-total : IsTotalOrder group_cmp
group_cmp-total =
    then_total (on_total (λ g. g.dims) (options_total dims_cmp-total))
    (then_total (on_total (λ g. g.concept) (options_total nat_list_cmp_total))
    (on_total (λ g. g.period) (options_total (options_total nat_list_cmp_total))))

pub stamp_cmp-total : IsTotalOrder stamp_cmp
stamp_cmp-total =
    then_total (on_total (λ s. s.code) nat_cmp_total) (then_total (on_total (λ s. s.rank) nat_cmp_total)
    (then_total (on_total (λ s. s.group) group_cmp-total) (on_total (λ s. s.id) nat_list_cmp_total)))

-- ---- ranges of identifiers

-- what is less than one that is not after an identifier is not after it, and so with one that is
after_falls : (after : Option Text) (x y : Text) → text_cmp x y ≡ Less → is_after after y ≡ false
    → is_after after x ≡ false
after_falls None x y l h = h
after_falls (Some last) x y l h = by (text_cmp last x) refl
  where
    by : (r : Ordering) → text_cmp last x ≡ r → is_lt (text_cmp last x) ≡ false
    by Less e = absurd (true≢false (sym (ap is_lt (nat_list_cmp_total.trans last x y e l)) ∙ h))
    by Equal e = ap is_lt e
    by Greater e = ap is_lt e

upto_falls : (upto : Option Text) (x y : Text) → text_cmp x y ≡ Less → is_upto upto x ≡ false → is_upto upto y ≡ false
upto_falls None x y l h = h
upto_falls (Some last) x y l h = by (text_cmp last x) refl
  where
    by : (r : Ordering) → text_cmp last x ≡ r → not (is_lt (text_cmp last y)) ≡ false
    by Less e = ap (λ r. not (is_lt r)) (nat_list_cmp_total.trans last x y e l)
    by Equal e = absurd (true≢false (sym (ap (λ r. not (is_lt r)) e) ∙ h))
    by Greater e = absurd (true≢false (sym (ap (λ r. not (is_lt r)) e) ∙ h))

-- the side of an identifier by what the two tests say
lt_side : (a b : Bool) → is_lt (cond a (cond b Equal Greater) Less) ≡ not a
lt_side true true = refl
lt_side true false = refl
lt_side false b = refl

past_both : (a b : Bool) → is_gt (cond a (cond b Equal Greater) Less) ≡ true → (a ≡ true) × (b ≡ false)
past_both true true h = absurd (true≢false (sym h))
past_both true false h = (refl, refl)
past_both false b h = absurd (true≢false (sym h))

stays_after : (a b : Bool) → (b ≡ false → a ≡ false) → a ≡ true → b ≡ true
stays_after a true f h = refl
stays_after a false f h = sym (f refl) ∙ h

not_from : (a : Bool) → not a ≡ true → a ≡ false
not_from true h = absurd (true≢false (sym h))
not_from false h = refl

ids_monotone : (ids : IdRange) → IsMonotone text_cmp (ids_side ids)
ids_monotone (Only id) = tie_is_monotone text_cmp nat_list_cmp_total id
ids_monotone (Between after upto) = record {
  before = λ x y l h.
      lt_side (is_after after x) (is_upto upto x)
      ∙ ap not (after_falls after x y l (not_from (is_after after y)
      (sym (lt_side (is_after after y) (is_upto upto y)) ∙ h)));
  until = λ x y l h.
      let past = past_both (is_after after x) (is_upto upto x) h in
      λ i. is_gt (cond (stays_after (is_after after x) (is_after after y) (after_falls after x y l) past.0 i)
      (cond (upto_falls upto x y l past.1 i) Equal Greater) Less);
}

named_monotone : (ids : IdRange) → IsMonotone (on (λ (s : Stamp). s.id) text_cmp) (λ s. ids_side ids s.id)
named_monotone ids =
    let m = ids_monotone ids in
    record { before = λ x y. m.before x.id y.id; until = λ x y. m.until x.id y.id }

pub among_is_monotone : (among : Among) → IsMonotone stamp_cmp (among_side among)
among_is_monotone among =
    then_monotone (λ s. s.code) nat_cmp_total among.code
    (then_monotone (λ s. s.rank) nat_cmp_total among.rank
    (then_monotone (λ s. s.group) group_cmp-total among.group (named_monotone among.ids)))

-- all stamps are a range
pub all_is_monotone : IsMonotone stamp_cmp (λ s. Equal)
all_is_monotone = record { before = λ x y l h. h; until = λ x y l h. h }
