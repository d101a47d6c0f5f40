-- Bounds of numbers and intervals, by which no sum leaves 128 bits.
--
-- A unit is 10^-15: the last place that a numeral may have after its point (`most_fraction_digits`). Numbers are
-- counted
-- in units, so they are whole, and the ends of intervals in half units.
use Rattle.std.specs.Prelude.{ℕ, ◌+◌, ◌*◌, ◌^◌, ◌<◌, ◌≤◌, ℤ, ◌≤ℤ◌, nat_abs}
use Rattle.filing_model.specs.Oim.Numerals.{most_fraction_digits, most_whole_digits}
use Rattle.filing_model.specs.Oim.Intervals.{Interval}

-- no number reaches so many units, 10^35
abbrev pub number_limit : ℕ
number_limit = 10 ^ (most_whole_digits + most_fraction_digits)

-- a number with no more digits than a numeral may have
pub record HasFewDigits (n : ℤ) : Type 0 where
  pub below : nat_abs n < number_limit

-- an interval that is not empty, its ends, in half units, at most three times `number_limit` in size
pub record HasBoundedEnds (i : Interval) : Type 0 where
  pub in_order : i.low ≤ℤ i.high
  pub low_size : nat_abs i.low ≤ 3 * number_limit
  pub high_size : nat_abs i.high ≤ 3 * number_limit
