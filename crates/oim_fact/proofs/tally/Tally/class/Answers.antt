-- What is in the fields decides the class of all pairs.
use Rattle.std.proofs.Common.{sym}
use Rattle.oim_fact.proofs.Tallying.{mixed, complete, shared_or_not}
use Rattle.oim_fact.proofs.tally.Tally.class.Goals as goal

pub returns-then-not-self : goal.returns-then-not-self
returns-then-not-self c first others told = sym (mixed c.args.self first others told c.if-not-self.true)

pub returns-then-self-2 : goal.returns-then-self-2
returns-then-self-2 c first others told = sym (complete c.args.self first others told c.if-self.false c.if-not-self.false c.if-self-2.true)

pub returns-then-is_some : goal.returns-then-is_some
returns-then-is_some c first others told =
    sym (shared_or_not c.args.self first others _ told c.if-self.false c.if-not-self.false c.if-self-2.false
    (sym c.if-is_some.ensures))

pub returns-else-is_some : goal.returns-else-is_some
returns-else-is_some c first others told =
    sym (shared_or_not c.args.self first others _ told c.if-self.false c.if-not-self.false c.if-self-2.false
    (sym c.if-is_some.ensures))
