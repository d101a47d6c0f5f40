-- Lemmas of the common part of two intervals.
use Rattle.std.proofs.Common.{◌≡◌, ℤ, ℕ, ◌≤◌, nat_abs, ◌≤ℤ◌, int_le, ◌↔◌, IsTrue, arith}
use Rattle.std.specs.Int.{int_max, int_min}
use Rattle.std.specs.Int.Signed.{le_z_yes}
use Rattle.std.specs.Bool.{passes}
use Rattle.std.proofs.lemmas.Int.{ints, clamps, by_lt_z}
use Rattle.std.proofs.lemmas.Bool.{and_parts}
use Rattle.filing_model.specs.Oim.Intervals.{Interval, IsWithin, meets}
use Rattle.oim_value.specs.Numbers.{HasBoundedEnds}

ordered : (a b c d : ℤ) → a ≤ℤ b → c ≤ℤ d → a ≤ℤ d → c ≤ℤ b → int_max a c ≤ℤ int_min b d
ordered a b c d p q r s = omega (arith, ints, clamps)

greater_size : (a b : ℤ) (n : ℕ) → nat_abs a ≤ n → nat_abs b ≤ n → nat_abs (int_max a b) ≤ n
greater_size a b n p q = by_lt_z b a (λ less. grind arith) (λ more. grind arith)

lesser_size : (a b : ℤ) (n : ℕ) → nat_abs a ≤ n → nat_abs b ≤ n → nat_abs (int_min a b) ≤ n
lesser_size a b n p q = by_lt_z b a (λ less. grind arith) (λ more. grind arith)

-- the common part of two that meet is an interval
pub common_ends : (i j : Interval) (low high : ℤ) → HasBoundedEnds i → HasBoundedEnds j → IsTrue (meets i j)
    → low ≡ int_max i.low j.low → high ≡ int_min i.high j.high → HasBoundedEnds (record { low = low; high = high })
common_ends i j low high a b m l h =
    let tests = and_parts (int_le i.low j.high) (int_le j.low i.high) m in
    let below : i.low ≤ℤ j.high = le_z_yes (passes (int_le i.low j.high) tests.0) in
    let above : j.low ≤ℤ i.high = le_z_yes (passes (int_le j.low i.high) tests.1) in
    record {
      in_order = rw (l, h) (ordered i.low i.high j.low j.high a.in_order b.in_order below above);
      low_size = rw l (greater_size i.low j.low _ a.low_size b.low_size);
      high_size = rw h (lesser_size i.high j.high _ a.high_size b.high_size);
    }

from_common : (i j : Interval) (low high x : ℤ) → low ≡ int_max i.low j.low → high ≡ int_min i.high j.high → low ≤ℤ x
    → x ≤ℤ high → IsWithin i x × IsWithin j x
from_common i j low high x l h p q = (
  (omega (arith, ints, clamps), omega (arith, ints, clamps)),
  (omega (arith, ints, clamps), omega (arith, ints, clamps)),
)

to_common_low : (i j : Interval) (low x : ℤ) → low ≡ int_max i.low j.low → i.low ≤ℤ x → j.low ≤ℤ x → low ≤ℤ x
to_common_low i j low x l p q = omega (arith, ints, clamps)

to_common_high : (i j : Interval) (high x : ℤ) → high ≡ int_min i.high j.high → x ≤ℤ i.high → x ≤ℤ j.high → x ≤ℤ high
to_common_high i j high x h p q = omega (arith, ints, clamps)

-- a number is in the common part just where it is in both
pub common_part : (i j : Interval) (low high : ℤ) → low ≡ int_max i.low j.low → high ≡ int_min i.high j.high → (x : ℤ)
    → IsWithin (record { low = low; high = high }) x ↔ (IsWithin i x × IsWithin j x)
common_part i j low high l h x = (
  λ (p, q). from_common i j low high x l h p q,
  λ ((p, q), (r, s)). (to_common_low i j low x l p r, to_common_high i j high x h q s),
)
