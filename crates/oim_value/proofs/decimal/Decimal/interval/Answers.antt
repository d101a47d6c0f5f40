use Rattle.std.proofs.Common.{arith}
use Rattle.std.proofs.lemmas.Int.{ints}
use Rattle.oim_value.specs.Accuracies.{decimals_of, half_width_of}
use Rattle.oim_value.proofs.Widths.{ends_around, interval_is, interval_holds}
use Rattle.oim_value.proofs.decimal.Decimal.interval.Goals as goal

pub invariant_of-result : goal.invariant_of-result
invariant_of-result c =
    ends_around c.args.self (half_width_of (decimals_of c.args.accuracy)) _ _ c.units-middle.ensures.small
    c.half_width-half.ensures.bound (omega (arith, ints)) (omega (arith, ints))

pub returns-clause-value : goal.returns-clause-value
returns-clause-value c = interval_is c.args.self (decimals_of c.args.accuracy) _ _ (omega (arith, ints)) (omega (arith, ints))

pub returns-clause-near : goal.returns-clause-near
returns-clause-near c = interval_holds c.args.self (decimals_of c.args.accuracy) _ (returns-clause-value c)

pub returns-clause-ends : goal.returns-clause-ends
returns-clause-ends c = invariant_of-result c
