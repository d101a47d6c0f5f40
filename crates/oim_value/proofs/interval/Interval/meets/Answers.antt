use Rattle.std.proofs.Common.{◌≤ℤ◌, ◌↔◌, IsTrue, subst, rules}
use Rattle.filing_model.specs.Oim.Intervals.{ShareANumber}
use Rattle.filing_model.proofs.Oim.Intervals.{meets_where_a_number_is_shared}
use Rattle.oim_value.proofs.interval.Interval.meets.Goals as goal

pub returns-then-self-other-clause-shared : goal.returns-then-self-other-clause-shared
returns-then-self-other-clause-shared c =
    let first : c.args.self.now.low ≤ℤ c.args.self.now.high = rw (← c.self.view_is) c.self.invariant.in_order in
    let second : c.args.other.now.low ≤ℤ c.args.other.now.high = rw (← c.other.view_is) c.other.invariant.in_order in
    subst (λ b. IsTrue b ↔ ShareANumber c.args.self.now c.args.other.now) (search rules)
    (meets_where_a_number_is_shared c.args.self.now c.args.other.now first second)
