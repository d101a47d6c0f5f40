-- Worked examples of intervals, in half units. A unit is 10^-15 (`most_fraction_digits`).
use Rattle.std.specs.Prelude.{◌≡◌, ◌*◌, ◌^◌, true, false, pos, neg_ℤ, Some, None, Err, refl}
use Rattle.filing_model.specs.Oim.Intervals.{interval_of, meets, accuracy_of}
use Rattle.filing_model.specs.declared.faults.NumberFault.TheVariants.{DecimalsOutOfRange}

pub a_thousand_at_thousands : interval_of (pos (10 ^ 18)) (Some (neg_ℤ (pos 3))) ≡ record { low = pos (10 ^ 18); high = pos (3 * 10 ^ 18) }
a_thousand_at_thousands = refl

-- they share the one point 1500
pub neighbours_meet : meets (interval_of (pos (10 ^ 18)) (Some (neg_ℤ (pos 3)))) (interval_of (pos (2 * 10 ^ 18)) (Some (neg_ℤ (pos 3)))) ≡ true
neighbours_meet = refl

pub the_next_number_does_not : meets (interval_of (pos (10 ^ 18)) (Some (neg_ℤ (pos 3)))) (interval_of (pos 1500000000000000001) None) ≡ false
the_next_number_does_not = refl

pub decimals_too_great : accuracy_of (Some (pos 16)) ≡ Err DecimalsOutOfRange
decimals_too_great = refl
