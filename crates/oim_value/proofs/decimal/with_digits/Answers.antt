use Rattle.std.proofs.Common.{◌≡◌, ◌+◌, suc, arith}
use Rattle.oim_value.proofs.Running.{digit_more}
use Rattle.oim_value.proofs.decimal.with_digits.Goals as goal

pub overflow_mul-number : goal.overflow_mul-number
overflow_mul-number c = let below = (digit_more _ _ _ _ c.loop-digit-test.true c.loop-digit.invariant).1 in omega arith

pub overflow_add-number : goal.overflow_add-number
overflow_add-number c = let below = (digit_more _ _ _ _ c.loop-digit-test.true c.loop-digit.invariant).1 in omega (arith, c.from.ensures)

pub loop-digit-preserved : goal.loop-digit-preserved
loop-digit-preserved c =
    rw c.from.ensures (let next : c.loop-digit.digit-index + 1 ≡ suc c.loop-digit.digit-index = omega arith in
    rw next (digit_more _ _ _ _ c.loop-digit-test.true c.loop-digit.invariant).0)
