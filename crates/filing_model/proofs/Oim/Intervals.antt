-- Proofs of the laws of intervals.
use Rattle.std.proofs.Common.{◌≡◌, ℕ, ◌≤◌, Bool, true, false, T, ℤ, pos, ◌+ℤ◌, ◌-ℤ◌, ◌*ℤ◌, ◌≤ℤ◌, int_le, nat_abs, Some, None, refl, arith, IsTrue}
use Rattle.std.proofs.lemmas.Int.{ints, by_lt_z}
use Rattle.std.proofs.lemmas.Bool.{and_parts, and_from}
use Rattle.std.specs.Int.Signed.{le_z_yes}
use Rattle.std.specs.Bool.{passes}
use Rattle.filing_model.specs.Oim.Intervals.{Interval, IsWithin, ShareANumber, around, meets, half_width, HoldsWhatIsNear, MeetsWhereANumberIsShared, NumbersHaveTheirInterval}

holds : (b : Bool) → T b → b ≡ true
holds true p = refl
holds false p = absurd p

shares : (i j : Interval) → i.low ≤ℤ i.high → j.low ≤ℤ j.high → IsTrue (meets i j) → ShareANumber i j
shares i j first second m =
    let tests = and_parts (int_le i.low j.high) (int_le j.low i.high) m in
    let below : i.low ≤ℤ j.high = le_z_yes (passes (int_le i.low j.high) tests.0) in
    let above : j.low ≤ℤ i.high = le_z_yes (passes (int_le j.low i.high) tests.1) in
    by_lt_z i.low j.low
    (λ less. (j.low, (omega (arith, ints), above), (omega (arith, ints), second)))
    (λ more. (i.low, (omega (arith, ints), first), (more, below)))

meets_by : (i j : Interval) → ShareANumber i j → IsTrue (meets i j)
meets_by i j (x, (a, b), (c, d)) =
    let below : i.low ≤ℤ j.high = omega (arith, ints) in
    let above : j.low ≤ℤ i.high = omega (arith, ints) in
    and_from (int_le i.low j.high) (int_le j.low i.high) (holds (int_le i.low j.high) below.le) (holds (int_le j.low i.high) above.le)

pub meets_where_a_number_is_shared : MeetsWhereANumberIsShared
meets_where_a_number_is_shared i j first second = (shares i j first second, meets_by i j)

ordered : (middle : ℤ) (half : ℕ) → (middle -ℤ pos half) ≤ℤ (middle +ℤ pos half)
ordered middle half = omega (arith, ints)

pub numbers_have_their_interval : NumbersHaveTheirInterval
numbers_have_their_interval n None = ordered (pos 2 *ℤ n) 0
numbers_have_their_interval n (Some d) = ordered (pos 2 *ℤ n) (half_width d)

near : (middle : ℤ) (half : ℕ) (x : ℤ) → IsWithin (around middle half) x → nat_abs (x -ℤ middle) ≤ half
near middle half x (low, high) = grind (arith, ints)

within_low : (middle : ℤ) (half : ℕ) (x : ℤ) → nat_abs (x -ℤ middle) ≤ half → (middle -ℤ pos half) ≤ℤ x
within_low middle half x close = grind (arith, ints)

within_high : (middle : ℤ) (half : ℕ) (x : ℤ) → nat_abs (x -ℤ middle) ≤ half → x ≤ℤ (middle +ℤ pos half)
within_high middle half x close = grind (arith, ints)

pub holds_what_is_near : HoldsWhatIsNear
holds_what_is_near middle half x = (near middle half x, λ close. (within_low middle half x close, within_high middle half x close))
