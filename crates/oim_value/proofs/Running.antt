-- Lemmas of a running number: what one digit more does to it.
use Rattle.std.proofs.Common.{◌≡◌, ℕ, suc, ◌+◌, ◌-◌, ◌*◌, ◌^◌, ◌<◌, ◌≤◌, ◌∷◌, length, drop, get_or, ap, sym, subst, ◌∙◌, arith, IsTrue, drop-cons}
use Rattle.std.proofs.Math.Nat.{mul-le-mul_right, pow-le-pow_right, pow-suc}
use Rattle.std.proofs.lemmas.Bool.{and_parts}
use Rattle.std.specs.List.{list_all}
use Rattle.std.specs.Char.{is_ascii_digit}
use Rattle.filing_model.specs.Common.Text.{Text}
use Rattle.filing_model.specs.Oim.Numerals.{place_sum}
use Rattle.filing_model.proofs.Oim.Bounds.{digit_is_small}
use Rattle.oim_value.specs.Numbers.{number_limit}

-- the digits that are left are few enough behind the running number, and together they make the whole one
pub record Makes (number : ℕ) (left : Text) (whole : ℕ) : Type 0 where
  pub few : (number + 1) * 10 ^ length left ≤ number_limit
  pub digits : IsTrue (list_all is_ascii_digit left)
  pub value : number * 10 ^ length left + place_sum left ≡ whole

one_more_is_few : (n d p : ℕ) → d ≤ 9 → (n + 1) * (p * 10) ≤ number_limit → (n * 10 + d + 1) * p ≤ number_limit
one_more_is_few n d p small few = let m : (n * 10 + d + 1) * p ≤ ((n + 1) * 10) * p = mul-le-mul_right p (omega arith) in omega arith

one_more_is_same : (n d p s : ℕ) → (n * 10 + d) * p + s ≡ n * (p * 10) + (d * p + s)
one_more_is_same n d p s = omega arith

one_more_fits : (n d p : ℕ) → d ≤ 9 → 0 < p → (n + 1) * (p * 10) ≤ number_limit → n * 10 + d < number_limit
one_more_fits n d p small some few = let m : 1 * (n * 10 + 10) ≤ p * (n * 10 + 10) = mul-le-mul_right (n * 10 + 10) some in omega arith

-- one digit more behind the running number
more : (n d : ℕ) (ds : Text) (whole : ℕ) → Makes n (d ∷ ds) whole → Makes (n * 10 + (d - 48)) ds whole × (n * 10 + (d - 48) < number_limit)
more n d ds whole h =
    let p = 10 ^ length ds in
    let t = and_parts (is_ascii_digit d) (list_all is_ascii_digit ds) h.digits in
    let small = digit_is_small d t.0 in
    let some : 0 < p = pow-le-pow_right {n = 10} (omega arith) {i = 0} {j = length ds} (omega arith) in
    let power : 10 ^ suc (length ds) ≡ p * 10 = pow-suc 10 (length ds) in
    let few : (n + 1) * (p * 10) ≤ number_limit = subst (λ m. (n + 1) * m ≤ number_limit) power h.few in (
      record {
        few = one_more_is_few n (d - 48) p small few;
        digits = t.1;
        value = one_more_is_same n (d - 48) p (place_sum ds)
            ∙ ap (λ m. n * m + ((d - 48) * p + place_sum ds)) (sym power) ∙ h.value;
      },
      one_more_fits n (d - 48) p small some few,
    )

pub digit_more : (n : ℕ) (ds : Text) (i whole : ℕ) → i < length ds → Makes n (drop i ds) whole
    → Makes (n * 10 + (get_or ds i 0 - 48)) (drop (suc i) ds) whole × (n * 10 + (get_or ds i 0 - 48) < number_limit)
digit_more n ds i whole h m = more n (get_or ds i 0) (drop (suc i) ds) whole (subst (λ l. Makes n l whole) (drop-cons ds i 0 h) m)
