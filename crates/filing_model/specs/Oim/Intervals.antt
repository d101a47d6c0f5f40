-- Intervals of rounded numbers: by `decimals` (XBRL 2.1) a number stands for all within half a unit of the last place that counts. The limits are the project's own.
use Rattle.std.specs.Prelude.{ℕ, suc, ◌-◌, ◌+◌, ◌^◌, Bool, cond, ◌&&◌, ℤ, pos, negsuc, neg_ℤ, ◌+ℤ◌, ◌-ℤ◌, ◌*ℤ◌, ◌≤ℤ◌, int_le, ◌≤◌, ◌↔◌, IsTrue, nat_abs, Option, None, Some, Result, Ok, Err}
use Rattle.filing_model.specs.Oim.Numerals.{most_fraction_digits, most_whole_digits}
use Rattle.filing_model.specs.declared.faults.NumberFault.{NumberFault}
use Rattle.filing_model.specs.declared.faults.NumberFault.TheVariants.{DecimalsOutOfRange}

-- from -20 to 15
abbrev pub are_decimals : ℤ → Bool
are_decimals d = int_le (neg_ℤ (pos most_whole_digits)) d && int_le d (pos most_fraction_digits)

-- decimals within their range, or none for an exact number
abbrev pub accuracy_of : Option ℤ → Result (Option ℤ) NumberFault
accuracy_of None = Ok None
accuracy_of (Some d) = cond (are_decimals d) (Ok (Some d)) (Err DecimalsOutOfRange)

-- a closed interval, its ends in half units, so that they are whole
pub record Interval : Type 0 where
  pub low : ℤ
  pub high : ℤ

-- half a unit of the place d, in half units: 10^(15-d)
abbrev pub half_width : ℤ → ℕ
half_width (pos d) = 10 ^ (most_fraction_digits - d)
half_width (negsuc d) = 10 ^ (most_fraction_digits + suc d)

-- the interval round a middle
abbrev pub around : ℤ → ℕ → Interval
around middle half = record { low = middle -ℤ pos half; high = middle +ℤ pos half }

-- of n units with these decimals; without decimals the one point
abbrev pub interval_of : ℤ → Option ℤ → Interval
interval_of n None = around (pos 2 *ℤ n) 0
interval_of n (Some d) = around (pos 2 *ℤ n) (half_width d)

abbrev pub IsWithin : Interval → ℤ → Type 0
IsWithin i x = (i.low ≤ℤ x) × (x ≤ℤ i.high)

-- some number is in both
abbrev pub ShareANumber : Interval → Interval → Type 0
ShareANumber i j = (x : ℤ) × IsWithin i x × IsWithin j x

-- the test for it: neither begins after the other ends
abbrev pub meets : Interval → Interval → Bool
meets i j = int_le i.low j.high && int_le j.low i.high

-- ---- laws

-- an interval holds what is no further from its middle than its half width
abbrev pub HoldsWhatIsNear : Type 0
HoldsWhatIsNear = (middle : ℤ) (half : ℕ) (x : ℤ) → IsWithin (around middle half) x ↔ (nat_abs (x -ℤ middle) ≤ half)

-- the test is exact for intervals that are not empty, as each of a number is
abbrev pub MeetsWhereANumberIsShared : Type 0
MeetsWhereANumberIsShared = (i j : Interval) → i.low ≤ℤ i.high → j.low ≤ℤ j.high → IsTrue (meets i j) ↔ ShareANumber i j

abbrev pub NumbersHaveTheirInterval : Type 0
NumbersHaveTheirInterval = (n : ℤ) (decimals : Option ℤ) → (interval_of n decimals).low ≤ℤ (interval_of n decimals).high
