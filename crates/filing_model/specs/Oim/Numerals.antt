-- Numbers as texts (XML Schema 1.0 Part 2, decimal; no exponents). The limits on digits are the project's own.
use Rattle.std.specs.Prelude.{◌≡◌, ℕ, ◌+◌, ◌-◌, ◌*◌, ◌^◌, ◌<◌, ◌≤◌, ◌≢◌, ◌==◌, nat_le, nat_lt, Bool, false, cond}
use Rattle.std.specs.Prelude.{◌&&◌, ◌||◌, IsTrue, [], ◌∷◌, ◌++◌, length, take, drop, ℤ, pos, neg_ℤ, nat_abs, ◌*ℤ◌}
use Rattle.std.specs.Prelude.{Option, None, Some, Result, Ok, Err}
use Rattle.std.specs.Char.{is_ascii_digit}
use Rattle.std.specs.List.{list_all, prefix_len, suffix_len, before_first, after_first}
use Rattle.filing_model.specs.Common.Text.{Text}
use Rattle.filing_model.specs.declared.faults.NumberFault.{NumberFault}
use Rattle.filing_model.specs.declared.faults.NumberFault.TheVariants.{NotANumber, TooLarge}

-- The limits, from which every scale follows: digits after the point with trailing zeros dropped, and digits before it with leading zeros dropped.
abbrev pub most_fraction_digits : ℕ
most_fraction_digits = 15

abbrev pub most_whole_digits : ℕ
most_whole_digits = 20

-- ---- the characters

-- space, tab, line feed and carriage return
abbrev pub is_blank : ℕ → Bool
is_blank c = c == 32 || c == 9 || c == 10 || c == 13

abbrev pub is_minus : ℕ → Bool
is_minus c = c == 45

abbrev pub is_sign : ℕ → Bool
is_sign c = c == 43 || is_minus c

abbrev pub is_point : ℕ → Bool
is_point c = c == 46

abbrev pub is_zero : ℕ → Bool
is_zero c = c == 48

-- ---- the number of a text

-- the rest from the first element that fails p
abbrev pub without_front : (ℕ → Bool) → Text → Text
without_front p text = drop (prefix_len p text) text

-- all up to the last element that fails p
abbrev pub without_end : (ℕ → Bool) → Text → Text
without_end p text = take (length text - suffix_len p text) text

abbrev pub without_blanks : Text → Text
without_blanks text = without_end is_blank (without_front is_blank text)

abbrev pub is_negative : Text → Bool
is_negative [] = false
is_negative (c ∷ text) = is_minus c

abbrev pub without_sign : Text → Text
without_sign [] = []
without_sign (c ∷ text) = cond (is_sign c) text (c ∷ text)

-- the sum of each digit times its place; 48 is the digit zero
abbrev pub place_sum : Text → ℕ
place_sum [] = 0
place_sum (digit ∷ digits) = (digit - 48) * 10 ^ length digits + place_sum digits

-- digits alone, and at least one
abbrev pub are_digits : Text → Bool
are_digits digits = nat_lt 0 (length digits) && list_all is_ascii_digit digits

-- the whole digits have no leading zero, the fraction digits no trailing one
abbrev pub are_few : Text → Text → Bool
are_few whole fraction = nat_le (length whole) most_whole_digits && nat_le (length fraction) most_fraction_digits

-- in units: the places below the last digit are filled up
abbrev pub scaled : Text → Text → ℕ
scaled whole fraction = place_sum (whole ++ fraction) * 10 ^ (most_fraction_digits - length fraction)

abbrev pub size_of_few : Text → Text → Result ℕ NumberFault
size_of_few whole fraction = cond (are_few whole fraction) (Ok (scaled whole fraction)) (Err TooLarge)

abbrev pub size_of_parts : Text → Text → Result ℕ NumberFault
size_of_parts whole fraction = cond (are_digits (whole ++ fraction))
    (size_of_few (without_front is_zero whole) (without_end is_zero fraction)) (Err NotANumber)

-- a second point is left among the fraction digits, and is no digit
abbrev pub size_of : Text → Result ℕ NumberFault
size_of digits = size_of_parts (before_first is_point digits) (after_first is_point digits)

abbrev pub signed : Bool → ℕ → ℤ
signed negative size = cond negative (neg_ℤ (pos size)) (pos size)

abbrev pub with_sign : Bool → Result ℕ NumberFault → Result ℤ NumberFault
with_sign negative (Ok size) = Ok (signed negative size)
with_sign negative (Err fault) = Err fault

abbrev pub number_of_body : Text → Result ℤ NumberFault
number_of_body body = with_sign (is_negative body) (size_of (without_sign body))

-- the number in units, or why there is none
abbrev pub number_of : Text → Result ℤ NumberFault
number_of text = number_of_body (without_blanks text)

-- ---- the grammar, against which the function above is proved

pub data Sign : Type 0 where
  Unsigned : Sign
  Plus : Sign
  Minus : Sign

-- how a number is spelled: without a point there are no fraction digits, with one there may be none
pub record Spelling : Type 0 where
  pub before : Text
  pub sign : Sign
  pub whole : Text
  pub fraction : Option Text
  pub after : Text

abbrev pub sign_text : Sign → Text
sign_text Unsigned = []
sign_text Plus = 43 ∷ []
sign_text Minus = 45 ∷ []

abbrev pub fraction_text : Option Text → Text
fraction_text None = []
fraction_text (Some digits) = 46 ∷ digits

abbrev pub fraction_digits : Option Text → Text
fraction_digits None = []
fraction_digits (Some digits) = digits

abbrev pub spelled : Spelling → Text
spelled s = s.before ++ (sign_text s.sign ++ (s.whole ++ (fraction_text s.fraction ++ s.after)))

abbrev pub digits_of : Spelling → Text
digits_of s = s.whole ++ fraction_digits s.fraction

pub record IsSpelling (s : Spelling) : Type 0 where
  pub before_is_blank : IsTrue (list_all is_blank s.before)
  pub after_is_blank : IsTrue (list_all is_blank s.after)
  pub digits : IsTrue (list_all is_ascii_digit (digits_of s))
  pub some_digit : 0 < length (digits_of s)

-- at most 20 whole digits after leading zeros are dropped, and 15 fraction digits after trailing zeros are
pub record IsShort (s : Spelling) : Type 0 where
  pub few_whole : length (without_front is_zero s.whole) ≤ most_whole_digits
  pub few_fraction : length (without_end is_zero (fraction_digits s.fraction)) ≤ most_fraction_digits

abbrev pub is_minus_sign : Sign → Bool
is_minus_sign Unsigned = false
is_minus_sign Plus = false
is_minus_sign Minus = Bool.true

-- n units are the signed digits, divided by 10 for each digit after the point
abbrev pub IsNumberOf : Spelling → ℤ → Type 0
IsNumberOf s n = n *ℤ pos (10 ^ length (fraction_digits s.fraction))
    ≡ signed (is_minus_sign s.sign) (place_sum (digits_of s) * 10 ^ most_fraction_digits)

-- ---- laws

abbrev pub ShortSpellingsHaveTheirNumber : Type 0
ShortSpellingsHaveTheirNumber = (s : Spelling) → IsSpelling s → IsShort s
    → (n : ℤ) × (number_of (spelled s) ≡ Ok n) × IsNumberOf s n

abbrev pub LongSpellingsAreTooLarge : Type 0
LongSpellingsAreTooLarge = (s : Spelling) → IsSpelling s → ¬ IsShort s → number_of (spelled s) ≡ Err TooLarge

abbrev pub OnlySpellingsAreNumbers : Type 0
OnlySpellingsAreNumbers = (text : Text) → number_of text ≢ Err NotANumber
    → (s : Spelling) × IsSpelling s × (spelled s ≡ text)

abbrev pub NumbersAreBounded : Type 0
NumbersAreBounded = (text : Text) (n : ℤ) → number_of text ≡ Ok n
    → nat_abs n < 10 ^ (most_whole_digits + most_fraction_digits)
