use Rattle.std.proofs.Common.{◌+◌, ◌*◌, ◌^◌, length, drop}
use Rattle.filing_model.specs.Oim.Numerals.{place_sum}
use Rattle.oim_value.proofs.Running.{Makes}
use Rattle.oim_value.proofs.decimal.with_digits.Given as goal

abbrev pub invariant-loop-digit : goal.invariant-loop-digit
invariant-loop-digit l = Makes l.number (drop l.digit-index l.digits) (l.fn.number * 10 ^ length l.digits + place_sum l.digits)
