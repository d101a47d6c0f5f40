-- Worked examples of numbers, which computing alone proves. `calls.rows` of `conformance` has more.
use Rattle.std.specs.Prelude.{◌≡◌, ◌^◌, ◌-◌, pos, neg_ℤ, Ok, Err, codes, refl}
use Rattle.filing_model.specs.Oim.Numerals.{number_of}
use Rattle.filing_model.specs.declared.faults.NumberFault.TheVariants.{NotANumber, TooLarge}

pub the_greatest_number : number_of (codes "99999999999999999999.999999999999999") ≡ Ok (pos (10 ^ 35 - 1))
the_greatest_number = refl

pub a_fraction_digit_too_many : number_of (codes "0.0000000000000001") ≡ Err TooLarge
a_fraction_digit_too_many = refl

pub an_exponent : number_of (codes "1E3") ≡ Err NotANumber
an_exponent = refl

pub outer_blanks_are_dropped : number_of (codes " \t-1.5\r\n") ≡ Ok (neg_ℤ (pos 1500000000000000))
outer_blanks_are_dropped = refl
