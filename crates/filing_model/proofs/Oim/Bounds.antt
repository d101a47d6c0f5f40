-- Proof that numbers are bounded: with `most_whole_digits` and `most_fraction_digits`, below 10^35 units.
use Rattle.std.proofs.Common.{◌≡◌, ℕ, zero, suc, ◌+◌, ◌-◌, ◌*◌, ◌^◌, ◌<◌, ◌≤◌, nat_lt, Bool, true, false, ◌&&◌, []}
use Rattle.std.proofs.Common.{◌∷◌, ◌++◌, length, take, ℤ, nat_abs, Result, Ok, Err, refl, ap, sym, subst, ◌∙◌}
use Rattle.std.proofs.Common.{arith, pow-add}
use Rattle.std.proofs.Math.Nat.{mul-le-mul_right, mul-lt-mul_of_pos_right, pow-le-pow_right, pow-suc}
use Rattle.std.proofs.lemmas.List.{length-append, take-append-drop}
use Rattle.std.proofs.lemmas.List.Folds.{list_all-append}
use Rattle.std.proofs.lemmas.Bool.Decides.{nat_tests}
use Rattle.std.proofs.lemmas.Bool.{and_parts}
use Rattle.std.specs.Char.{is_ascii_digit}
use Rattle.std.specs.List.{list_all, prefix_len, before_first, after_first}
use Rattle.filing_model.specs.Common.Text.{Text}
use Rattle.filing_model.specs.Oim.Numerals.{is_zero, is_point, without_front, without_end, without_blanks}
use Rattle.filing_model.specs.Oim.Numerals.{without_sign, is_negative, are_digits, are_few, size_of_few, size_of}
use Rattle.filing_model.specs.Oim.Numerals.{scaled, place_sum, signed, with_sign, most_fraction_digits}
use Rattle.filing_model.specs.Oim.Numerals.{most_whole_digits, NumbersAreBounded}
use Rattle.filing_model.specs.declared.faults.NumberFault.{NumberFault}
use Rattle.filing_model.specs.declared.faults.NumberFault.TheVariants.{NotANumber, TooLarge}
use Rattle.filing_model.proofs.Oim.Trimming.{end_parts}
use Rattle.filing_model.proofs.Oim.Numerals.{few_whole_digits, few_fraction_digits}
use Rattle.filing_model.proofs.Common.Tests.{passed_test}

by_sign : (negative : Bool) (r : Result ℕ NumberFault) (n : ℤ) → with_sign negative r ≡ Ok n → (size : ℕ) × (r ≡ Ok size) × (n ≡ signed negative size)
by_sign negative (Ok size) n e = (size, refl, (cc))
by_sign negative (Err fault) n e = absurd (cc)

size_is : (negative : Bool) (size : ℕ) → nat_abs (signed negative size) ≡ size
size_is false size = refl
size_is true zero = refl
size_is true (suc size) = refl

pub digit_is_small : (d : ℕ) → is_ascii_digit d ≡ true → d - 48 ≤ 9
digit_is_small d e = grind (arith, nat_tests)

one_place_more : (d a p : ℕ) → d ≤ 9 → p < a → d * a + p < a * 10
one_place_more d a p small below = let m : d * a ≤ 9 * a = mul-le-mul_right a small in omega arith

pub place_sum_below : (digits : Text) → list_all is_ascii_digit digits ≡ true → place_sum digits < 10 ^ length digits
place_sum_below [] e = omega arith
place_sum_below (d ∷ digits) e =
    let t = and_parts (is_ascii_digit d) (list_all is_ascii_digit digits) e in
    rw pow-suc (one_place_more (d - 48) (10 ^ length digits) (place_sum digits) (digit_is_small d t.0) (place_sum_below digits t.1))

cut_digits : (digits : Text) → list_all is_ascii_digit digits ≡ true → list_all is_ascii_digit (without_front is_zero digits) ≡ true
cut_digits digits e =
    let front = take (prefix_len is_zero digits) digits in
    (and_parts (list_all is_ascii_digit front) (list_all is_ascii_digit (without_front is_zero digits))
    (sym (list_all-append is_ascii_digit front (without_front is_zero digits))
    ∙ ap (λ l. list_all is_ascii_digit l) (take-append-drop (prefix_len is_zero digits) digits) ∙ e)).1

kept_digits : (digits : Text) → list_all is_ascii_digit digits ≡ true → list_all is_ascii_digit (without_end is_zero digits) ≡ true
kept_digits digits e =
    let parts = end_parts is_zero digits in
    (and_parts (list_all is_ascii_digit (without_end is_zero digits)) (list_all is_ascii_digit parts.0)
    (sym (list_all-append is_ascii_digit (without_end is_zero digits) parts.0)
    ∙ ap (λ l. list_all is_ascii_digit l) (sym parts.1) ∙ e)).0

pub all_digits : (whole fraction : Text) → list_all is_ascii_digit (whole ++ fraction) ≡ true → list_all is_ascii_digit (without_front is_zero whole ++ without_end is_zero fraction) ≡ true
all_digits whole fraction e =
    let t = and_parts (list_all is_ascii_digit whole) (list_all is_ascii_digit fraction) (sym (list_all-append is_ascii_digit whole fraction) ∙ e) in
    list_all-append is_ascii_digit (without_front is_zero whole) (without_end is_zero fraction)
    ∙ ap (λ b. b && list_all is_ascii_digit (without_end is_zero fraction)) (cut_digits whole t.0) ∙ kept_digits fraction t.1

pub scaled_below : (whole fraction : Text) → list_all is_ascii_digit (whole ++ fraction) ≡ true → length whole ≤ most_whole_digits
    → length fraction ≤ most_fraction_digits → scaled whole fraction < 10 ^ (most_whole_digits + most_fraction_digits)
scaled_below whole fraction digits few_whole few_fraction =
    let left = most_fraction_digits - length fraction in
    let positive : 0 < 10 ^ left = pow-le-pow_right {n = 10} (omega arith) {i = 0} {j = left} (omega arith) in
    let below : place_sum (whole ++ fraction) < 10 ^ length (whole ++ fraction) = place_sum_below (whole ++ fraction) digits in
    let first : scaled whole fraction < 10 ^ length (whole ++ fraction) * 10 ^ left = mul-lt-mul_of_pos_right below positive in
    let power : 10 ^ length (whole ++ fraction) * 10 ^ left ≡ 10 ^ (length (whole ++ fraction) + left) = sym (pow-add 10 (length (whole ++ fraction)) left) in
    let places : length (whole ++ fraction) + left ≤ most_whole_digits + most_fraction_digits = omega (arith, length-append whole fraction) in
    let most : 10 ^ (length (whole ++ fraction) + left) ≤ 10 ^ (most_whole_digits + most_fraction_digits) = pow-le-pow_right {n = 10} (omega arith) places in
    omega arith

size_below : (digits : Text) (size : ℕ) → size_of digits ≡ Ok size → size < 10 ^ (most_whole_digits + most_fraction_digits)
size_below digits size e =
    let whole = before_first is_point digits in
    let fraction = after_first is_point digits in
    let cut = without_front is_zero whole in
    let kept = without_end is_zero fraction in
    let numeral = passed_test (are_digits (whole ++ fraction)) (size_of_few cut kept) NotANumber size e in
    let few = passed_test (are_few cut kept) (Ok (scaled cut kept)) TooLarge size numeral.1 in
    let same : scaled cut kept ≡ size = (cc few.1) in
    let all = (and_parts (nat_lt 0 (length (whole ++ fraction))) (list_all is_ascii_digit (whole ++ fraction)) numeral.0).1 in
    subst (λ n. n < 10 ^ (most_whole_digits + most_fraction_digits)) same (scaled_below cut kept (all_digits whole fraction all) (few_whole_digits cut kept few.0) (few_fraction_digits cut kept few.0))

pub numbers_are_bounded : NumbersAreBounded
numbers_are_bounded text n e =
    let body = without_blanks text in
    let size = by_sign (is_negative body) (size_of (without_sign body)) n e in
    subst (λ k. k < 10 ^ (most_whole_digits + most_fraction_digits)) (sym (ap nat_abs size.2 ∙ size_is (is_negative body) size.0)) (size_below (without_sign body) size.0 size.1)
