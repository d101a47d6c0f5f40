-- Intervals that meet in pairs have a number in common.
use Rattle.std.proofs.Common.{◌≡◌, Bool, true, ℤ, ◌≤ℤ◌, int_le, List, [], ◌∷◌, arith}
use Rattle.std.specs.Int.{int_max}
use Rattle.std.specs.Int.Signed.{le_z_yes}
use Rattle.std.specs.Bool.{⊤, passes}
use Rattle.std.specs.List.{list_all}
use Rattle.std.proofs.lemmas.Int.{ints, clamps}
use Rattle.std.proofs.lemmas.Bool.{and_parts}
use Rattle.filing_model.specs.Oim.Intervals.{Interval, IsWithin, meets}
use Rattle.filing_model.specs.Oim.Duplicates.{every_pair}

not_above_itself : (x : ℤ) → x ≤ℤ x
not_above_itself x = omega (arith, ints)

le_through : (x y z : ℤ) → x ≤ℤ y → y ≤ℤ z → x ≤ℤ z
le_through x y z p q = omega (arith, ints)

greater_left : (x y : ℤ) → x ≤ℤ int_max x y
greater_left x y = omega (arith, ints, clamps)

greater_right : (x y : ℤ) → y ≤ℤ int_max x y
greater_right x y = omega (arith, ints, clamps)

greater_below : (x y z : ℤ) → x ≤ℤ z → y ≤ℤ z → int_max x y ≤ℤ z
greater_below x y z p q = omega (arith, ints, clamps)

module _ {A : Type 0} (interval : A → Interval) where
  -- a number in the interval of each
  abbrev pub IsInEach : ℤ → List A → Type 0
  IsInEach x [] = ⊤
  IsInEach x (a ∷ list) = IsWithin (interval a) x × IsInEach x list

  -- each interval begins at this number or before it
  abbrev EachBegins : ℤ → List A → Type 0
  EachBegins x [] = ⊤
  EachBegins x (a ∷ list) = ((interval a).low ≤ℤ x) × EachBegins x list

  -- where each interval of the first list ends, each of the second has begun
  abbrev EachEndsAfter : List A → List A → Type 0
  EachEndsAfter [] begun = ⊤
  EachEndsAfter (a ∷ list) begun = EachBegins (interval a).high begun × EachEndsAfter list begun

  abbrev meet : A → A → Bool
  meet a b = meets (interval a) (interval b)

  later : (x y : ℤ) (list : List A) → x ≤ℤ y → EachBegins x list → EachBegins y list
  later x y [] p begun = tt
  later x y (a ∷ list) p (here, rest) = (le_through (interval a).low x y here p, later x y list p rest)

  begins_before_the_end : (a : A) (list : List A) → list_all (meet a) list ≡ true → EachBegins (interval a).high list
  begins_before_the_end a [] e = tt
  begins_before_the_end a (b ∷ list) e =
      let parts = and_parts (meet a b) (list_all (meet a) list) e in
      let tests = and_parts (int_le (interval a).low (interval b).high) (int_le (interval b).low (interval a).high) parts.0 in
      (le_z_yes (passes (int_le (interval b).low (interval a).high) tests.1), begins_before_the_end a list parts.1)

  ends_after_one_more : (a : A) (list begun : List A) → list_all (meet a) list ≡ true → EachEndsAfter list begun → EachEndsAfter list (a ∷ begun)
  ends_after_one_more a [] begun e ends = tt
  ends_after_one_more a (b ∷ list) begun e (here, rest) =
      let parts = and_parts (meet a b) (list_all (meet a) list) e in
      let tests = and_parts (int_le (interval a).low (interval b).high) (int_le (interval b).low (interval a).high) parts.0 in
      ((le_z_yes (passes (int_le (interval a).low (interval b).high) tests.0), here), ends_after_one_more a list begun parts.1 rest)

  module _ (filled : (a : A) → (interval a).low ≤ℤ (interval a).high) where
    each_ends_after_each : (list : List A) → every_pair meet list ≡ true → EachEndsAfter list list
    each_ends_after_each [] e = tt
    each_ends_after_each (a ∷ list) e =
        let parts = and_parts (list_all (meet a) list) (every_pair meet list) e in
        ((filled a, begins_before_the_end a list parts.0), ends_after_one_more a list list parts.0 (each_ends_after_each list parts.1))

    -- the greatest of the numbers at which intervals begin
    last_begin : (a : A) (list : List A) → (x : ℤ) × EachBegins x (a ∷ list) × ((y : ℤ) → EachBegins y (a ∷ list) → x ≤ℤ y)
    last_begin a [] = ((interval a).low, (not_above_itself (interval a).low, tt), λ y begun. begun.0)
    last_begin a (b ∷ list) =
        let rest = last_begin b list in
        let x = int_max (interval a).low rest.0 in (
          x,
          (greater_left (interval a).low rest.0, later rest.0 x (b ∷ list) (greater_right (interval a).low rest.0) rest.1),
          λ y begun. greater_below (interval a).low rest.0 y begun.0 (rest.2 y begun.1),
        )

    in_each : (x : ℤ) (list begun : List A) → EachBegins x list → ((y : ℤ) → EachBegins y begun → x ≤ℤ y) → EachEndsAfter list begun → IsInEach x list
    in_each x [] begun begins least ends = tt
    in_each x (a ∷ list) begun (here, rest) least (end, ends) = ((here, least (interval a).high end), in_each x list begun rest least ends)

    pub number_in_common : (a : A) (list : List A) → every_pair meet (a ∷ list) ≡ true → (x : ℤ) × IsInEach x (a ∷ list)
    number_in_common a list e =
        let begin = last_begin a list in
        (begin.0, in_each begin.0 (a ∷ list) (a ∷ list) begin.1 begin.2 (each_ends_after_each (a ∷ list) e))
