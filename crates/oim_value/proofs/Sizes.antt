-- Lemmas of the size of a numeral: that the running number of both its parts fits, and is the definition's sum of
-- places.
use Rattle.std.proofs.Common.{◌≡◌, ℕ, ◌+◌, ◌-◌, ◌*◌, ◌^◌, ◌<◌, ◌≤◌, nat_lt, Bool, true, ℤ, Ok, Err, ◌++◌, length, ap, sym, ◌∙◌, arith, pow-add}
use Rattle.std.proofs.Math.Nat.{mul-le-mul_right, pow-le-pow_right}
use Rattle.std.proofs.lemmas.List.Folds.{list_all-append}
use Rattle.std.proofs.lemmas.Bool.{and_parts}
use Rattle.std.specs.List.{list_all}
use Rattle.std.specs.Char.{is_ascii_digit}
use Rattle.filing_model.specs.Common.Text.{Text}
use Rattle.filing_model.specs.Oim.Numerals.{place_sum, scaled, are_digits, are_few, is_zero, is_blank, without_front}
use Rattle.filing_model.specs.Oim.Numerals.{without_end, without_blanks, is_negative, without_sign, size_of, signed}
use Rattle.filing_model.specs.Oim.Numerals.{with_sign, number_of_body, number_of, most_fraction_digits}
use Rattle.filing_model.specs.Oim.Numerals.{most_whole_digits}
use Rattle.filing_model.specs.declared.faults.NumberFault.{NumberFault}
use Rattle.filing_model.proofs.Oim.Numerals.{place_sum_append, few_whole_digits, few_fraction_digits}
use Rattle.filing_model.proofs.Oim.Bounds.{place_sum_below, scaled_below, all_digits}
use Rattle.oim_value.specs.Numbers.{number_limit}

-- the digits before the point leave room for those behind it
pub few_behind : (whole fraction : Text) (number : ℕ) → number ≡ 0 * 10 ^ length whole + place_sum whole
    → list_all is_ascii_digit (whole ++ fraction) ≡ true → are_few whole fraction ≡ true
    → (number + 1) * 10 ^ length fraction ≤ number_limit
few_behind whole fraction number is digits few =
    let w = few_whole_digits whole fraction few in
    let f = few_fraction_digits whole fraction few in
    let t =
    and_parts (list_all is_ascii_digit whole) (list_all is_ascii_digit fraction)
    (sym (list_all-append is_ascii_digit whole fraction) ∙ digits) in
    let below = place_sum_below whole t.0 in
    let first : (number + 1) * 10 ^ length fraction ≤ 10 ^ length whole * 10 ^ length fraction =
    mul-le-mul_right (10 ^ length fraction) (omega arith) in
    let power : 10 ^ length whole * 10 ^ length fraction ≡ 10 ^ (length whole + length fraction) =
    sym (pow-add 10 (length whole) (length fraction)) in
    let most : 10 ^ (length whole + length fraction) ≤ number_limit =
    pow-le-pow_right {n = 10} (omega arith) {i = length whole + length fraction}
    {j = most_whole_digits + most_fraction_digits} (omega arith) in
    omega arith

-- the running number of both parts, with its places filled up, is the definition's
pub scaled_by_running : (whole fraction : Text) (first number power : ℕ)
    → first ≡ 0 * 10 ^ length whole + place_sum whole → number ≡ first * 10 ^ length fraction + place_sum fraction
    → power ≡ 10 ^ (most_fraction_digits - length fraction) → number * power ≡ scaled whole fraction
scaled_by_running whole fraction first number power a b p =
    let front : first ≡ place_sum whole = omega arith in
    let sum : number ≡ place_sum (whole ++ fraction) =
    b ∙ ap (λ n. n * 10 ^ length fraction + place_sum fraction) front ∙ sym (place_sum_append whole fraction) in
    ap (λ n. n * power) sum ∙ ap (λ n. place_sum (whole ++ fraction) * n) p

pub scaled_is_small : (whole fraction : Text) → list_all is_ascii_digit (whole ++ fraction) ≡ true
    → are_few whole fraction ≡ true → scaled whole fraction < number_limit
scaled_is_small whole fraction digits few =
    scaled_below whole fraction digits (few_whole_digits whole fraction few) (few_fraction_digits whole fraction few)

-- digits are left where zeros were dropped
pub left_digits : (whole fraction : Text) → are_digits (whole ++ fraction) ≡ true
    → list_all is_ascii_digit (without_front is_zero whole ++ without_end is_zero fraction) ≡ true
left_digits whole fraction e =
    all_digits whole fraction (and_parts (nat_lt 0 (length (whole ++ fraction)))
    (list_all is_ascii_digit (whole ++ fraction)) e).1

-- the parts of a text are those of its definition
pub body_is : (text front body : Text) → front ≡ without_front is_blank text → body ≡ without_end is_blank front → body ≡ without_blanks text
body_is text front body f b = b ∙ ap (without_end is_blank) f

pub parts_of : (text body digits : Text) → body ≡ without_blanks text → digits ≡ without_sign body
    → with_sign (is_negative body) (size_of digits) ≡ number_of text
parts_of text body digits b d = ap (λ l. with_sign (is_negative body) (size_of l)) d ∙ ap number_of_body b

pub read_number : (text body digits : Text) (negative : Bool) (size : ℕ) (units : ℤ) → body ≡ without_blanks text
    → digits ≡ without_sign body → negative ≡ is_negative body → Ok size ≡ size_of digits → units ≡ signed negative size
    → Ok units ≡ number_of text
read_number text body digits negative size units b d m s u =
    ap (λ n. Ok n) u ∙ ap (with_sign negative) s ∙ ap (λ sign. with_sign sign (size_of digits)) m
    ∙ parts_of text body digits b d

pub read_fault : (text body digits : Text) (fault : NumberFault) → body ≡ without_blanks text
    → digits ≡ without_sign body → Err fault ≡ size_of digits → Err fault ≡ number_of text
read_fault text body digits fault b d s = ap (with_sign (is_negative body)) s ∙ parts_of text body digits b d
