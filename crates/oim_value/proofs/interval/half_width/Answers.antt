use Rattle.std.proofs.Common.{arith}
use Rattle.std.proofs.lemmas.Int.{ints}
use Rattle.oim_value.proofs.Widths.{power_fits, half_width_is_bounded}
use Rattle.oim_value.proofs.interval.half_width.Goals as goal

pub pow-requires : goal.pow-requires
pow-requires c = power_fits _ (grind (arith, ints))

pub returns-in-To-clause-bound : goal.returns-in-To-clause-bound
returns-in-To-clause-bound c = rw c.in-To.is (half_width_is_bounded c.in-To.decimals c.place.ensures.least)
