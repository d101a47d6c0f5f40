use mir.Syntax.{w128}
use Rattle.std.proofs.Common.{◌≡◌, to_z, of_z, sym, subst, ◌∙◌, arith}
use Rattle.std.specs.Int.{int_max, int_min}
use Rattle.std.proofs.lemmas.Int.{ints, clamps}
use Rattle.oim_value.specs.Numbers.{HasBoundedEnds}
use Rattle.oim_value.proofs.CommonParts.{common_ends, common_part}
use Rattle.oim_value.proofs.interval.Interval.common_part.Goals as goal

low : (c : goal.After-min) → to_z w128 (of_z w128 c.max.result) ≡ int_max c.args.self.now.low c.args.other.now.low
low c = rw (← c.self.view_is, ← c.other.view_is) (omega (arith, ints, clamps))

high : (c : goal.After-min) → to_z w128 (of_z w128 c.min.result) ≡ int_min c.args.self.now.high c.args.other.now.high
high c = rw (← c.self.view_is, ← c.other.view_is) (omega (arith, ints, clamps))

ends : (c : goal.After-min) → HasBoundedEnds (record { low = to_z w128 (of_z w128 c.max.result); high = to_z w128 (of_z w128 c.min.result) })
ends c =
    common_ends c.args.self.now c.args.other.now _ _ (subst HasBoundedEnds c.self.view_is c.self.invariant)
    (subst HasBoundedEnds c.other.view_is c.other.invariant) (sym c.meets.ensures.test ∙ c.if-not-meets.false) (low c)
    (high c)

pub invariant_of-result : goal.invariant_of-result
invariant_of-result c = ends c

pub returns-clause-common : goal.returns-clause-common
returns-clause-common c = common_part c.args.self.now c.args.other.now _ _ (low c) (high c)

pub returns-clause-ends : goal.returns-clause-ends
returns-clause-ends c = ends c
