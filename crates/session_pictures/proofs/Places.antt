-- Numbers in their places among numbers that rise.
use Rattle.std.proofs.Common.{◌≡◌, ap, sym, refl, ℕ, suc, ◌==◌, ◌≤◌, arith, Bool, true, false, cond, List, [], ◌∷◌, length}
use Rattle.std.proofs.Common.{true≢false}
use Rattle.std.specs.Prelude.{nat_lt}
use Rattle.std.specs.List.{insert}
use Rattle.session_pictures.specs.Columns.{count_below, is_at, with_number}

pub below_within : (n : ℕ) (cs : List ℕ) → count_below n cs ≤ length cs
below_within n [] = omega arith
below_within n (m ∷ ms) = by (nat_lt m n) (below_within n ms)
  where
    by : (b : Bool) → count_below n ms ≤ length ms → cond b (suc (count_below n ms)) 0 ≤ suc (length ms)
    by true within = omega (arith, within)
    by false within = omega arith

-- it is there
pub with_present : (n : ℕ) (cs : List ℕ) → is_at n (count_below n cs) cs ≡ true → cs ≡ with_number n cs
with_present n [] is = absurd (true≢false (sym is))
with_present n (m ∷ ms) is = by (nat_lt m n) is (with_present n ms)
  where
    by : (b : Bool) → is_at n (cond b (suc (count_below n ms)) 0) (m ∷ ms) ≡ true → (is_at n (count_below n ms) ms ≡ true → ms ≡ with_number n ms)
        → m ∷ ms ≡ cond b (m ∷ with_number n ms) (cond (m == n) (m ∷ ms) (n ∷ m ∷ ms))
    by true is rest = ap (λ xs. m ∷ xs) (rest is)
    by false is rest = sym (ap (λ b. cond b (m ∷ ms) (n ∷ m ∷ ms)) is)

-- it is put there
pub with_absent : (n : ℕ) (cs : List ℕ) → is_at n (count_below n cs) cs ≡ false → insert cs (count_below n cs) n ≡ with_number n cs
with_absent n [] none = refl
with_absent n (m ∷ ms) none = by (nat_lt m n) none (with_absent n ms)
  where
    by : (b : Bool) → is_at n (cond b (suc (count_below n ms)) 0) (m ∷ ms) ≡ false
        → (is_at n (count_below n ms) ms ≡ false → insert ms (count_below n ms) n ≡ with_number n ms)
        → insert (m ∷ ms) (cond b (suc (count_below n ms)) 0) n ≡ cond b (m ∷ with_number n ms) (cond (m == n) (m ∷ ms) (n ∷ m ∷ ms))
    by true none rest = ap (λ xs. m ∷ xs) (rest none)
    by false none rest = sym (ap (λ b. cond b (m ∷ ms) (n ∷ m ∷ ms)) none)
