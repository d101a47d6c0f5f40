-- The tally tells of the first fact and of all that were given since.
use Rattle.std.specs.Arc.{arc_value}
use Rattle.oim_fact.specs.SharedFacts.{facts_behind}
use Rattle.oim_fact.specs.Tallies.{Describes}
use Rattle.oim_fact.proofs.classes.class_over.Given as goal

abbrev pub invariant-loop-fact : goal.invariant-loop-fact
invariant-loop-fact g l = Describes l.tally (arc_value l.first) (facts_behind l.yielded)
