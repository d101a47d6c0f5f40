-- Pairs of values: complete ones are alike, and consistent ones have intervals that meet.
use Rattle.std.proofs.Common.{arith, ◌≡◌, Bool, true, false, cond, ◌&&◌, ◌||◌, ℤ, pos, ◌≤ℤ◌, [], Option, None, Some, refl, ap, sym, ◌∙◌}
use Rattle.std.specs.Bool.{Decides}
use Rattle.std.proofs.lemmas.Int.{ints}
use Rattle.std.specs.Ordering.{int_eq}
use Rattle.std.specs.Option.{option_eq}
use Rattle.std.proofs.lemmas.Bool.Decides.{Decides-int_eq}
use Rattle.std.proofs.lemmas.Bool.{and_parts, and_from, or_right}
use Rattle.filing_model.specs.Common.Text.{text_eq}
use Rattle.filing_model.specs.Oim.Facts.{FactValue, Nil, Written, Number}
use Rattle.filing_model.specs.Oim.Intervals.{Interval, IsWithin, interval_of, meets}
use Rattle.filing_model.specs.Oim.Duplicates.{value_pair, is_complete, is_consistent}
use Rattle.filing_model.specs.declared.duplicates.Pair.TheVariants as pair
use Rattle.filing_model.proofs.Common.Texts.{text_decides}
use Rattle.filing_model.proofs.Oim.Intervals.{meets_where_a_number_is_shared, numbers_have_their_interval}
use Rattle.oim_fact.specs.Tallies.{interval_in, IsIn}

-- ---- complete values

complete_if : (a b : Bool) → is_complete (cond a pair.Complete (cond b pair.Consistent pair.Inconsistent)) ≡ a
complete_if true b = refl
complete_if false true = refl
complete_if false false = refl

consistent_if : (a b : Bool) → is_consistent (cond a pair.Complete (cond b pair.Consistent pair.Inconsistent)) ≡ (a || b)
consistent_if true b = refl
consistent_if false true = refl
consistent_if false false = refl

same_text_if : (a : Bool) → is_complete (cond a pair.Complete pair.Inconsistent) ≡ a
same_text_if true = refl
same_text_if false = refl

decimals_decide : (d e : Option ℤ) → Decides (option_eq int_eq d e) (d ≡ e)
decimals_decide None None = (λ _. refl, λ _. refl)
decimals_decide None (Some e) = (λ h. absurd (cc), λ h. absurd (cc))
decimals_decide (Some d) None = (λ h. absurd (cc), λ h. absurd (cc))
decimals_decide (Some d) (Some e) = (λ h. ap Some ((Decides-int_eq d e).0 h), λ h. (Decides-int_eq d e).1 (cc))

-- a value without the text of a number: what a complete pair has in common
abbrev without_spelling : FactValue → FactValue
without_spelling (Number text n decimals) = Number [] n decimals
without_spelling v = v

complete_decides : (v w : FactValue) → Decides (is_complete (value_pair v w)) (without_spelling v ≡ without_spelling w)
complete_decides Nil Nil = (λ _. refl, λ _. refl)
complete_decides (Written s) (Written t) =
    let same = text_decides s t in
    rw same_text_if (λ h. ap Written (same.0 h), λ h. same.1 (cc))
complete_decides (Number s n d) (Number t m e) =
    let both_same = and_parts (int_eq n m) (option_eq int_eq d e) in
    rw complete_if (
      λ h. let p = (Decides-int_eq n m).0 (both_same h).0 in let q = (decimals_decide d e).0 (both_same h).1 in cc,
      λ h. and_from (int_eq n m) (option_eq int_eq d e) ((Decides-int_eq n m).1 (cc)) ((decimals_decide d e).1 (cc)),
    )
complete_decides v w = (λ h. absurd (cc), λ h. absurd (cc))

-- values that are complete with one are complete with each other
pub complete_with_one : (u v w : FactValue) → is_complete (value_pair u v) ≡ true → is_complete (value_pair u w) ≡ true
    → is_complete (value_pair v w) ≡ true
complete_with_one u v w p q = (complete_decides v w).1 (sym ((complete_decides u v).0 p) ∙ (complete_decides u w).0 q)

same_where_both : (a b : Bool) → (a ≡ true → b ≡ true) → (b ≡ true → a ≡ true) → a ≡ b
same_where_both true b f g = sym (f refl)
same_where_both false true f g = g refl
same_where_both false false f g = refl

-- and are complete with the same values
pub complete_as_the_other : (u v w : FactValue) → is_complete (value_pair u v) ≡ true
    → is_complete (value_pair u w) ≡ is_complete (value_pair v w)
complete_as_the_other u v w p =
    let alike = (complete_decides u v).0 p in
    same_where_both (is_complete (value_pair u w)) (is_complete (value_pair v w))
    (λ e. (complete_decides v w).1 (sym alike ∙ (complete_decides u w).0 e))
    (λ e. (complete_decides u w).1 (alike ∙ (complete_decides v w).0 e))

-- ---- consistent values

-- the interval of a value, where any serves for what is no number
abbrev pub interval_for : FactValue → Interval
interval_for (Number text n decimals) = interval_of n decimals
interval_for v = record { low = pos 0; high = pos 0 }

pub filled_for : (v : FactValue) → (interval_for v).low ≤ℤ (interval_for v).high
filled_for (Number text n decimals) = numbers_have_their_interval n decimals
filled_for v = omega (arith, ints)

either_holds : (a b : Bool) → (a ≡ true → b ≡ true) → (a || b) ≡ true → b ≡ true
either_holds true b follows e = follows refl
either_holds false b follows e = e

meets_itself : (n m : ℤ) (d e : Option ℤ) → n ≡ m → d ≡ e → meets (interval_of n d) (interval_of m e) ≡ true
meets_itself n m d e p q =
    let filled = numbers_have_their_interval n d in
    let at_itself : meets (interval_of n d) (interval_of n d) ≡ true =
    (meets_where_a_number_is_shared (interval_of n d) (interval_of n d) filled filled).1
    ((interval_of n d).low, (omega (arith, ints), filled), (omega (arith, ints), filled)) in
    (λ i. meets (interval_of n d) (interval_of (sym p i) (sym q i))) ∙ at_itself

pub consistent_meet : (v w : FactValue) → is_consistent (value_pair v w) ≡ true → meets (interval_for v) (interval_for w) ≡ true
consistent_meet Nil Nil h = refl
consistent_meet (Written s) (Written t) h = refl
consistent_meet (Number s n d) (Number t m e) h =
    either_holds (int_eq n m && option_eq int_eq d e) (meets (interval_of n d) (interval_of m e))
    (λ same. let parts = and_parts (int_eq n m) (option_eq int_eq d e) same in
    meets_itself n m d e ((Decides-int_eq n m).0 parts.0) ((decimals_decide d e).0 parts.1))
    (sym (consistent_if (int_eq n m && option_eq int_eq d e) (meets (interval_of n d) (interval_of m e))) ∙ h)
consistent_meet v w h = absurd (cc)

-- values with a number in common are consistent
pub consistent_at : (v w : FactValue) (x : ℤ) → IsIn (interval_in v) x → IsIn (interval_in w) x → is_consistent (value_pair v w) ≡ true
consistent_at (Number s n d) (Number t m e) x p q =
    let met =
    (meets_where_a_number_is_shared (interval_of n d) (interval_of m e) (numbers_have_their_interval n d)
    (numbers_have_their_interval m e)).1 (x, p, q) in
    consistent_if (int_eq n m && option_eq int_eq d e) (meets (interval_of n d) (interval_of m e))
    ∙ or_right (int_eq n m && option_eq int_eq d e) (meets (interval_of n d) (interval_of m e)) met
consistent_at (Number s n d) w x p q = absurd q
consistent_at v w x p q = absurd p

-- a number of a value's interval
pub in_its_interval : (v : FactValue) (i : Interval) (x : ℤ) → interval_in v ≡ Some i → IsWithin (interval_for v) x → IsIn (interval_in v) x
in_its_interval (Number t n d) i x e p = p
in_its_interval v i x e p = absurd (cc)

-- what is consistent with a number is one
pub number_with_number : (v w : FactValue) (i : Interval) (x : ℤ) → interval_in v ≡ Some i
    → is_consistent (value_pair v w) ≡ true → IsWithin (interval_for w) x → IsIn (interval_in w) x
number_with_number (Number s n d) (Number t m c) i x e h p = p
number_with_number (Number s n d) w i x e h p = absurd (cc)
number_with_number v w i x e h p = absurd (cc)

same_text_as : (a : Bool) → is_consistent (cond a pair.Complete pair.Inconsistent) ≡ is_complete (cond a pair.Complete pair.Inconsistent)
same_text_as true = refl
same_text_as false = refl

-- only numbers can be consistent without being complete
pub complete_without_interval : (v w : FactValue) → interval_in v ≡ None → is_consistent (value_pair v w) ≡ is_complete (value_pair v w)
complete_without_interval (Number s n d) w none = absurd (cc)
complete_without_interval (Written s) (Written t) none = same_text_as (text_eq s t)
complete_without_interval Nil Nil none = refl
complete_without_interval v w none = refl
