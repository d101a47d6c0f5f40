-- Lemmas of intervals: half widths are bounded by the places of numerals, and ends by numbers and half widths.
use Rattle.std.proofs.Common.{◌≡◌, ℕ, suc, ◌+◌, ◌-◌, ◌^◌, ◌≤◌, ℤ, pos, negsuc, neg_ℤ, ◌+ℤ◌, ◌-ℤ◌, ◌*ℤ◌, ◌≤ℤ◌, ◌↔◌, nat_abs, Option, None, Some, sym, subst, arith}
use Rattle.std.proofs.Math.Nat.{pow-le-pow_right}
use mir.Syntax.{w128}
use Rattle.std.specs.Int.RustNames.{FitsSigned}
use Rattle.std.proofs.lemmas.Int.{ints, fits_signed_from_abs}
use Rattle.filing_model.specs.Oim.Numerals.{most_fraction_digits, most_whole_digits}
use Rattle.filing_model.specs.Oim.Intervals.{Interval, IsWithin, interval_of, half_width}
use Rattle.filing_model.proofs.Oim.Intervals.{holds_what_is_near}
use Rattle.oim_value.specs.Accuracies.{half_width_of}
use Rattle.oim_value.specs.Numbers.{number_limit, HasFewDigits, HasBoundedEnds}

-- a power of ten with no more places than a numeral has
pub power_is_bounded : (places : ℕ) → places ≤ most_whole_digits + most_fraction_digits → 10 ^ places ≤ number_limit
power_is_bounded places few = pow-le-pow_right {n = 10} (omega arith) few

pub power_fits : (places : ℕ) → places ≤ most_whole_digits + most_fraction_digits → FitsSigned w128 (pos (10 ^ places))
power_fits places few = let bound = power_is_bounded places few in fits_signed_from_abs w128 (pos (10 ^ places)) (omega arith)

pub half_width_is_bounded : (d : ℤ) → neg_ℤ (pos most_whole_digits) ≤ℤ d → half_width d ≤ number_limit
half_width_is_bounded (pos d) least = power_is_bounded (most_fraction_digits - d) (omega arith)
half_width_is_bounded (negsuc d) least = power_is_bounded (most_fraction_digits + suc d) (omega (arith, ints))

pub interval_is : (n : ℤ) (decimals : Option ℤ) (low high : ℤ) → low ≡ pos 2 *ℤ n -ℤ pos (half_width_of decimals)
    → high ≡ pos 2 *ℤ n +ℤ pos (half_width_of decimals) → record { low = low; high = high } ≡ interval_of n decimals
interval_is n None low high l h = λ i. record { low = l i; high = h i }
interval_is n (Some d) low high l h = λ i. record { low = l i; high = h i }

-- it holds what is no further from its middle than its half width
pub interval_holds : (n : ℤ) (decimals : Option ℤ) (i : Interval) → i ≡ interval_of n decimals → (x : ℤ)
    → IsWithin i x ↔ (nat_abs (x -ℤ pos 2 *ℤ n) ≤ half_width_of decimals)
interval_holds n None i e x =
    subst (λ j. IsWithin j x ↔ (nat_abs (x -ℤ pos 2 *ℤ n) ≤ half_width_of None)) (sym e)
    (holds_what_is_near (pos 2 *ℤ n) 0 x)
interval_holds n (Some d) i e x =
    subst (λ j. IsWithin j x ↔ (nat_abs (x -ℤ pos 2 *ℤ n) ≤ half_width d)) (sym e)
    (holds_what_is_near (pos 2 *ℤ n) (half_width d) x)

-- the interval round twice a number that is small
pub ends_around : (n : ℤ) (half : ℕ) (low high : ℤ) → HasFewDigits n → half ≤ number_limit
    → low ≡ pos 2 *ℤ n -ℤ pos half → high ≡ pos 2 *ℤ n +ℤ pos half → HasBoundedEnds (record { low = low; high = high })
ends_around n half low high small bound l h = record {
  in_order = omega (arith, ints);
  low_size = grind (arith, ints);
  high_size = grind (arith, ints);
}
