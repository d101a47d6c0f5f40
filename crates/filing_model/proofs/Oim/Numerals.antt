-- Proofs of the laws of numerals: the number of a text and the grammar of spellings agree.
use Rattle.std.proofs.Common.{◌≡◌, ◌≢◌, ℕ, suc, ◌+◌, ◌-◌, ◌*◌, ◌^◌, ◌<◌, ◌≤◌, ◌==◌, nat_lt, Bool, true, false, not}
use Rattle.std.proofs.Common.{cond, ◌||◌, [], ◌∷◌, ◌++◌, length, take, pos, ◌*ℤ◌, Option, Some, None, Ok, Err}
use Rattle.std.proofs.Common.{refl, ap, sym, ◌∙◌, arith, append_assoc, zero, zero-mul, pow-add, eqb-true}
use Rattle.std.proofs.lemmas.List.{length-append, take-append-drop}
use Rattle.std.proofs.lemmas.List.Folds.{list_all-append}
use Rattle.std.proofs.lemmas.Bool.Decides.{nat_tests}
use Rattle.std.proofs.lemmas.Bool.{and_parts, and_from}
use Rattle.std.specs.Char.{is_ascii_digit}
use Rattle.std.specs.List.{list_all, prefix_len, before_first, after_first}
use Rattle.filing_model.specs.Common.Text.{Text}
use Rattle.filing_model.specs.Oim.Numerals.{is_blank, is_minus, is_sign, is_point, is_zero, without_front, without_end}
use Rattle.filing_model.specs.Oim.Numerals.{without_blanks, is_negative, without_sign, Sign, Unsigned, Plus, Minus}
use Rattle.filing_model.specs.Oim.Numerals.{sign_text, is_minus_sign, fraction_text, fraction_digits, Spelling}
use Rattle.filing_model.specs.Oim.Numerals.{IsSpelling, IsShort, spelled, are_digits, are_few, size_of_few}
use Rattle.filing_model.specs.Oim.Numerals.{size_of_parts, size_of, scaled, place_sum, signed, with_sign}
use Rattle.filing_model.specs.Oim.Numerals.{number_of_body, number_of, most_fraction_digits, most_whole_digits}
use Rattle.filing_model.specs.Oim.Numerals.{ShortSpellingsHaveTheirNumber, LongSpellingsAreTooLarge}
use Rattle.filing_model.specs.Oim.Numerals.{OnlySpellingsAreNumbers}
use Rattle.filing_model.specs.declared.faults.NumberFault.TheVariants.{NotANumber, TooLarge}
use Rattle.filing_model.proofs.Oim.Trimming.{front_skip, front_keep, end_skip, end_keep, end_parts, dropped, front_cons, before_cons, after_cons}

-- ---- what digits are not

digit_is_not_blank : (c : ℕ) → is_ascii_digit c ≡ true → not (is_blank c) ≡ true
digit_is_not_blank c d = grind (arith, nat_tests)

digit_is_no_point : (c : ℕ) → is_ascii_digit c ≡ true → is_point c ≡ false
digit_is_no_point c d = grind (arith, nat_tests)

digit_is_no_sign : (c : ℕ) → is_ascii_digit c ≡ true → is_sign c ≡ false
digit_is_no_sign c d = grind (arith, nat_tests)

digit_is_no_minus : (c : ℕ) → is_ascii_digit c ≡ true → is_minus c ≡ false
digit_is_no_minus c d = grind (arith, nat_tests)

digits_are_not_blank : (ds : Text) → list_all is_ascii_digit ds ≡ true → list_all (λ c. not (is_blank c)) ds ≡ true
digits_are_not_blank [] e = refl
digits_are_not_blank (d ∷ ds) e =
    let t = and_parts (is_ascii_digit d) (list_all is_ascii_digit ds) e in
    and_from (not (is_blank d)) (list_all (λ c. not (is_blank c)) ds) (digit_is_not_blank d t.0) (digits_are_not_blank ds t.1)

-- ---- from a spelling to its number

sign_is_not_blank : (sign : Sign) → list_all (λ c. not (is_blank c)) (sign_text sign) ≡ true
sign_is_not_blank Unsigned = refl
sign_is_not_blank Plus = refl
sign_is_not_blank Minus = refl

tail_is_not_blank : (whole : Text) (fraction : Option Text) → list_all is_ascii_digit (whole ++ fraction_digits fraction) ≡ true
    → list_all (λ c. not (is_blank c)) (whole ++ fraction_text fraction) ≡ true
tail_is_not_blank whole None e = digits_are_not_blank (whole ++ []) e
tail_is_not_blank whole (Some digits) e =
    let t = and_parts (list_all is_ascii_digit whole) (list_all is_ascii_digit digits) (sym (list_all-append is_ascii_digit whole digits) ∙ e) in
    list_all-append (λ c. not (is_blank c)) whole (46 ∷ digits)
    ∙ and_from (list_all (λ c. not (is_blank c)) whole) (list_all (λ c. not (is_blank c)) digits) (digits_are_not_blank whole t.0) (digits_are_not_blank digits t.1)

tail_is_some : (whole : Text) (fraction : Option Text) → 0 < length (whole ++ fraction_digits fraction) → 0 < length (whole ++ fraction_text fraction)
tail_is_some whole None some = some
tail_is_some whole (Some digits) some = omega (arith, length-append whole (46 ∷ digits))

trimmed : (s : Spelling) → IsSpelling s → without_blanks (spelled s) ≡ sign_text s.sign ++ (s.whole ++ fraction_text s.fraction)
trimmed s good =
    let tail = s.whole ++ fraction_text s.fraction in
    let body = sign_text s.sign ++ tail in
    let grouped : spelled s ≡ s.before ++ (body ++ s.after) = simp append_assoc in
    let filled : 0 < length tail = tail_is_some s.whole s.fraction good.some_digit in
    let whole_body : 0 < length body = omega (arith, length-append (sign_text s.sign) tail) in
    let tail_clean : list_all (λ c. not (is_blank c)) tail ≡ true = tail_is_not_blank s.whole s.fraction good.digits in
    let clean : list_all (λ c. not (is_blank c)) body ≡ true = list_all-append (λ c. not (is_blank c)) (sign_text s.sign) tail
    ∙ and_from (list_all (λ c. not (is_blank c)) (sign_text s.sign)) (list_all (λ c. not (is_blank c)) tail) (sign_is_not_blank s.sign) tail_clean in
    ap without_blanks grouped
    ∙ ap (without_end is_blank) (front_skip is_blank s.before (body ++ s.after) good.before_is_blank ∙ front_keep is_blank body s.after clean whole_body)
    ∙ end_skip is_blank body s.after good.after_is_blank
    ∙ end_keep is_blank (sign_text s.sign) tail tail_clean filled

negative_by_sign : (sign : Sign) (tail : Text) → is_negative tail ≡ false → is_negative (sign_text sign ++ tail) ≡ is_minus_sign sign
negative_by_sign Unsigned tail e = e
negative_by_sign Plus tail e = refl
negative_by_sign Minus tail e = refl

rest_by_sign : (sign : Sign) (tail : Text) → without_sign tail ≡ tail → without_sign (sign_text sign ++ tail) ≡ tail
rest_by_sign Unsigned tail e = e
rest_by_sign Plus tail e = refl
rest_by_sign Minus tail e = refl

no_sign : (whole : Text) (fraction : Option Text) → list_all is_ascii_digit (whole ++ fraction_digits fraction) ≡ true
    → 0 < length (whole ++ fraction_digits fraction)
    → (is_negative (whole ++ fraction_text fraction) ≡ false) × (without_sign (whole ++ fraction_text fraction) ≡ whole ++ fraction_text fraction)
no_sign [] None e some = absurd (omega arith)
no_sign [] (Some digits) e some = (refl, refl)
no_sign (d ∷ ds) fraction e some =
    let t = and_parts (is_ascii_digit d) (list_all is_ascii_digit (ds ++ fraction_digits fraction)) e in
    (digit_is_no_minus d t.0, ap (λ b. cond b (ds ++ fraction_text fraction) (d ∷ (ds ++ fraction_text fraction))) (digit_is_no_sign d t.0))

before_point : (whole : Text) (fraction : Option Text) → list_all is_ascii_digit whole ≡ true → before_first is_point (whole ++ fraction_text fraction) ≡ whole
before_point [] None e = refl
before_point [] (Some digits) e = refl
before_point (d ∷ ds) fraction e =
    let t = and_parts (is_ascii_digit d) (list_all is_ascii_digit ds) e in
    before_cons is_point d (ds ++ fraction_text fraction)
    ∙ ap (λ b. cond b [] (d ∷ before_first is_point (ds ++ fraction_text fraction))) (digit_is_no_point d t.0)
    ∙ ap (λ l. d ∷ l) (before_point ds fraction t.1)

after_point : (whole : Text) (fraction : Option Text) → list_all is_ascii_digit whole ≡ true → after_first is_point (whole ++ fraction_text fraction) ≡ fraction_digits fraction
after_point [] None e = refl
after_point [] (Some digits) e = refl
after_point (d ∷ ds) fraction e =
    let t = and_parts (is_ascii_digit d) (list_all is_ascii_digit ds) e in
    after_cons is_point d (ds ++ fraction_text fraction)
    ∙ ap (λ b. cond b (ds ++ fraction_text fraction) (after_first is_point (ds ++ fraction_text fraction))) (digit_is_no_point d t.0)
    ∙ after_point ds fraction t.1

is_some_digit : (digits : Text) → list_all is_ascii_digit digits ≡ true → 0 < length digits → are_digits digits ≡ true
is_some_digit digits e some = and_from (nat_lt 0 (length digits)) (list_all is_ascii_digit digits) (grind (arith, nat_tests)) e

number_of_spelling : (s : Spelling) → IsSpelling s
    → number_of (spelled s) ≡ with_sign (is_minus_sign s.sign) (size_of_few (without_front is_zero s.whole) (without_end is_zero (fraction_digits s.fraction)))
number_of_spelling s good =
    let digits = fraction_digits s.fraction in
    let tail = s.whole ++ fraction_text s.fraction in
    let whole_digits = (and_parts (list_all is_ascii_digit s.whole) (list_all is_ascii_digit digits) (sym (list_all-append is_ascii_digit s.whole digits) ∙ good.digits)).0 in
    let unsigned = no_sign s.whole s.fraction good.digits good.some_digit in
    let few = size_of_few (without_front is_zero s.whole) (without_end is_zero digits) in
    let size : size_of tail ≡ few = ap (λ w. size_of_parts w (after_first is_point tail)) (before_point s.whole s.fraction whole_digits)
    ∙ ap (λ f. size_of_parts s.whole f) (after_point s.whole s.fraction whole_digits)
    ∙ ap (λ b. cond b few (Err NotANumber)) (is_some_digit (s.whole ++ digits) good.digits good.some_digit) in
    ap number_of_body (trimmed s good)
    ∙ ap (λ b. with_sign b (size_of (without_sign (sign_text s.sign ++ tail)))) (negative_by_sign s.sign tail unsigned.0)
    ∙ ap (λ l. with_sign (is_minus_sign s.sign) (size_of l)) (rest_by_sign s.sign tail unsigned.1)
    ∙ ap (with_sign (is_minus_sign s.sign)) size

-- ---- the size of a spelling

is_the_zero : (c : ℕ) → is_zero c ≡ true → c - 48 ≡ 0
is_the_zero c e = grind (arith, nat_tests)

regrouped : (x a b p q : ℕ) → x * (a * b) + (p * b + q) ≡ (x * a + p) * b + q
regrouped x a b p q = omega arith

pub place_sum_append : (a b : Text) → place_sum (a ++ b) ≡ place_sum a * 10 ^ length b + place_sum b
place_sum_append [] b = omega arith
place_sum_append (d ∷ a) b =
    let power : 10 ^ length (a ++ b) ≡ 10 ^ length a * 10 ^ length b = ap (λ n. 10 ^ n) (length-append a b) ∙ pow-add 10 (length a) (length b) in
    ap (λ n. (d - 48) * n + place_sum (a ++ b)) power
    ∙ ap (λ n. (d - 48) * (10 ^ length a * 10 ^ length b) + n) (place_sum_append a b)
    ∙ regrouped (d - 48) (10 ^ length a) (10 ^ length b) (place_sum a) (place_sum b)

no_places : (x a p : ℕ) → x ≡ 0 → x * a + p ≡ p
no_places x a p e = ap (λ n. n * a + p) e ∙ omega arith

zeros_are_zero : (zeros : Text) → list_all is_zero zeros ≡ true → place_sum zeros ≡ 0
zeros_are_zero [] e = refl
zeros_are_zero (z ∷ zeros) e =
    let t = and_parts (is_zero z) (list_all is_zero zeros) e in
    no_places (z - 48) (10 ^ length zeros) (place_sum zeros) (is_the_zero z t.0) ∙ zeros_are_zero zeros t.1

trailing_zeros : (a zeros : Text) → list_all is_zero zeros ≡ true → place_sum (a ++ zeros) ≡ place_sum a * 10 ^ length zeros
trailing_zeros a zeros e = let none = zeros_are_zero zeros e in place_sum_append a zeros ∙ ap (λ n. place_sum a * 10 ^ length zeros + n) none ∙ omega arith

leading_zeros : (whole rest : Text) → place_sum (without_front is_zero whole ++ rest) ≡ place_sum (whole ++ rest)
leading_zeros [] rest = refl
leading_zeros (d ∷ ds) rest =
    ap (λ l. place_sum (l ++ rest)) (front_cons is_zero d ds)
    ∙ (elim (is_zero d) as (λ b. is_zero d ≡ b → place_sum (cond b (without_front is_zero ds) (d ∷ ds) ++ rest) ≡ place_sum (d ∷ (ds ++ rest))) [
      | true ↦ (λ e. leading_zeros ds rest ∙ sym (no_places (d - 48) (10 ^ length (ds ++ rest)) (place_sum (ds ++ rest)) (is_the_zero d e)))
      | false ↦ (λ e. refl)
    ] refl)

reordered : (p a b z m : ℕ) → a * b ≡ m → (p * a) * (b * z) ≡ (p * z) * m
reordered p a b z m e = (let q : (p * a) * (b * z) ≡ (p * z) * (a * b) = omega arith in q) ∙ ap (λ n. (p * z) * n) e

-- as many places as fraction digits, with any number of zeros behind
scaled_is : (whole fraction : Text) → length (without_end is_zero fraction) ≤ most_fraction_digits
    → scaled (without_front is_zero whole) (without_end is_zero fraction) * 10 ^ length fraction ≡ place_sum (whole ++ fraction) * 10 ^ most_fraction_digits
scaled_is whole fraction few =
    let kept = without_end is_zero fraction in
    let cut = without_front is_zero whole in
    let parts = end_parts is_zero fraction in
    let zeros = parts.0 in
    let sum : place_sum (whole ++ fraction) ≡ place_sum (cut ++ kept) * 10 ^ length zeros = sym (leading_zeros whole fraction)
    ∙ ap (λ l. place_sum (cut ++ l)) parts.1 ∙ ap place_sum (sym (append_assoc cut kept zeros)) ∙ trailing_zeros (cut ++ kept) zeros parts.2 in
    let places : 10 ^ length fraction ≡ 10 ^ length kept * 10 ^ length zeros = ap (λ l. 10 ^ length l) parts.1
    ∙ ap (λ n. 10 ^ n) (length-append kept zeros) ∙ pow-add 10 (length kept) (length zeros) in
    let filled : most_fraction_digits - length kept + length kept ≡ most_fraction_digits = omega arith in
    let whole_power : 10 ^ (most_fraction_digits - length kept) * 10 ^ length kept ≡ 10 ^ most_fraction_digits = sym (pow-add 10 (most_fraction_digits - length kept) (length kept))
    ∙ ap (λ n. 10 ^ n) filled in
    ap (λ n. scaled cut kept * n) places
    ∙ reordered (place_sum (cut ++ kept)) (10 ^ (most_fraction_digits - length kept)) (10 ^ length kept) (10 ^ length zeros) (10 ^ most_fraction_digits) whole_power
    ∙ ap (λ n. n * 10 ^ most_fraction_digits) (sym sum)

signed_mul : (negative : Bool) (a b : ℕ) → signed negative a *ℤ pos b ≡ signed negative (a * b)
signed_mul false a b = refl
signed_mul true zero b = rw zero-mul refl
signed_mul true (suc a) b = refl

are_few_digits : (whole fraction : Text) → length whole ≤ most_whole_digits → length fraction ≤ most_fraction_digits → are_few whole fraction ≡ true
are_few_digits whole fraction w f = grind (arith, nat_tests)

pub few_whole_digits : (whole fraction : Text) → are_few whole fraction ≡ true → length whole ≤ most_whole_digits
few_whole_digits whole fraction e = grind (arith, nat_tests)

pub few_fraction_digits : (whole fraction : Text) → are_few whole fraction ≡ true → length fraction ≤ most_fraction_digits
few_fraction_digits whole fraction e = grind (arith, nat_tests)

-- ---- the laws

pub short_spellings_have_their_number : ShortSpellingsHaveTheirNumber
short_spellings_have_their_number s good short =
    let digits = fraction_digits s.fraction in
    let whole = without_front is_zero s.whole in
    let fraction = without_end is_zero digits in
    let negative = is_minus_sign s.sign in (
      signed negative (scaled whole fraction),
      number_of_spelling s good ∙ ap (λ b. with_sign negative (cond b (Ok (scaled whole fraction)) (Err TooLarge))) (are_few_digits whole fraction short.few_whole short.few_fraction),
      signed_mul negative (scaled whole fraction) (10 ^ length digits) ∙ ap (signed negative) (scaled_is s.whole digits short.few_fraction),
    )

are_many : (s : Spelling) → ¬ IsShort s → are_few (without_front is_zero s.whole) (without_end is_zero (fraction_digits s.fraction)) ≡ false
are_many s long =
    let whole = without_front is_zero s.whole in
    let fraction = without_end is_zero (fraction_digits s.fraction) in
    elim (are_few whole fraction) as (λ b. are_few whole fraction ≡ b → b ≡ false) [
      | true ↦ (λ e. absurd (long (record { few_whole = few_whole_digits whole fraction e; few_fraction = few_fraction_digits whole fraction e })))
      | false ↦ (λ e. refl)
    ] refl

pub long_spellings_are_too_large : LongSpellingsAreTooLarge
long_spellings_are_too_large s good long =
    let whole = without_front is_zero s.whole in
    let fraction = without_end is_zero (fraction_digits s.fraction) in
    number_of_spelling s good ∙ ap (λ b. with_sign (is_minus_sign s.sign) (cond b (Ok (scaled whole fraction)) (Err TooLarge))) (are_many s long)

-- ---- from a text to its spelling

sign_of : Text → Sign
sign_of [] = Unsigned
sign_of (c ∷ text) = cond (is_minus c) Minus (cond (c == 43) Plus Unsigned)

fraction_of : Text → Option Text
fraction_of [] = None
fraction_of (c ∷ text) = cond (is_point c) (Some text) (fraction_of text)

by_sign : (c : ℕ) (text : Text) (plus minus : Bool) → (plus ≡ true → c ≡ 43) → (minus ≡ true → c ≡ 45)
    → c ∷ text ≡ sign_text (cond minus Minus (cond plus Plus Unsigned)) ++ cond (plus || minus) text (c ∷ text)
by_sign c text true true p m = ap (λ d. d ∷ text) (m refl)
by_sign c text true false p m = ap (λ d. d ∷ text) (p refl)
by_sign c text false true p m = ap (λ d. d ∷ text) (m refl)
by_sign c text false false p m = refl

sign_parts : (text : Text) → text ≡ sign_text (sign_of text) ++ without_sign text
unfolding sign_of
sign_parts [] = refl
sign_parts (c ∷ text) = by_sign c text (c == 43) (is_minus c) (eqb-true c 43) (eqb-true c 45)

by_point : (c : ℕ) (text before : Text) (fraction : Option Text) (b : Bool) → (b ≡ true → c ≡ 46) → text ≡ before ++ fraction_text fraction
    → c ∷ text ≡ cond b [] (c ∷ before) ++ fraction_text (cond b (Some text) fraction)
by_point c text before fraction true point e = ap (λ d. d ∷ text) (point refl)
by_point c text before fraction false point e = ap (λ l. c ∷ l) e

point_parts : (text : Text) → text ≡ before_first is_point text ++ fraction_text (fraction_of text)
unfolding fraction_of
point_parts [] = refl
point_parts (c ∷ text) =
    by_point c text (before_first is_point text) (fraction_of text) (is_point c) (eqb-true c 46) (point_parts text)
    ∙ ap (λ l. l ++ fraction_text (cond (is_point c) (Some text) (fraction_of text))) (sym (before_cons is_point c text))

by_fraction : (text after : Text) (fraction : Option Text) (b : Bool) → fraction_digits fraction ≡ after → fraction_digits (cond b (Some text) fraction) ≡ cond b text after
by_fraction text after fraction true e = refl
by_fraction text after fraction false e = e

fraction_is : (text : Text) → fraction_digits (fraction_of text) ≡ after_first is_point text
unfolding fraction_of
fraction_is [] = refl
fraction_is (c ∷ text) = by_fraction text (after_first is_point text) (fraction_of text) (is_point c) (fraction_is text) ∙ sym (after_cons is_point c text)

has_digits : (text : Text) → number_of text ≢ Err NotANumber
    → are_digits (before_first is_point (without_sign (without_blanks text)) ++ after_first is_point (without_sign (without_blanks text))) ≡ true
has_digits text number =
    let body = without_blanks text in
    let whole = before_first is_point (without_sign body) in
    let fraction = after_first is_point (without_sign body) in
    elim (are_digits (whole ++ fraction)) as (λ b. are_digits (whole ++ fraction) ≡ b → b ≡ true) [
      | true ↦ (λ e. refl)
      | false ↦ (λ e. absurd (number (ap (λ b. with_sign (is_negative body) (cond b (size_of_few (without_front is_zero whole) (without_end is_zero fraction)) (Err NotANumber))) e)))
    ] refl

some_length : (text : Text) → nat_lt 0 (length text) ≡ true → 0 < length text
some_length text e = grind (arith, nat_tests)

pub only_spellings_are_numbers : OnlySpellingsAreNumbers
only_spellings_are_numbers text number =
    let front = take (prefix_len is_blank text) text in
    let trimmed_front = without_front is_blank text in
    let body = without_blanks text in
    let tail = without_sign body in
    let end = end_parts is_blank trimmed_front in
    let whole = before_first is_point tail in
    let digits : are_digits (whole ++ fraction_digits (fraction_of tail)) ≡ true = ap (λ l. are_digits (whole ++ l)) (fraction_is tail) ∙ has_digits text number in
    let tests = and_parts (nat_lt 0 (length (whole ++ fraction_digits (fraction_of tail)))) (list_all is_ascii_digit (whole ++ fraction_digits (fraction_of tail))) digits in
    let grouped : front ++ (sign_text (sign_of body) ++ (whole ++ (fraction_text (fraction_of tail) ++ end.0)))
    ≡ front ++ ((sign_text (sign_of body) ++ (whole ++ fraction_text (fraction_of tail))) ++ end.0) =
    simp append_assoc in (
      record { before = front; sign = sign_of body; whole = whole; fraction = fraction_of tail; after = end.0 },
      record { before_is_blank = dropped is_blank text; after_is_blank = end.2; digits = tests.1; some_digit = some_length (whole ++ fraction_digits (fraction_of tail)) tests.0 },
      grouped
          ∙ ap (λ l. front ++ ((sign_text (sign_of body) ++ l) ++ end.0)) (sym (point_parts tail))
          ∙ ap (λ l. front ++ (l ++ end.0)) (sym (sign_parts body))
          ∙ ap (λ l. front ++ l) (sym end.1)
          ∙ take-append-drop (prefix_len is_blank text) text,
    )
