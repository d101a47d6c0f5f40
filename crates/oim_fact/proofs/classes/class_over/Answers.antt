-- What was given is the first fact and what the loop took, and the tally tells of them.
use Rattle.std.proofs.Common.{◌∷◌, subst}
use Rattle.std.specs.Arc.{arc_value}
use Rattle.std.specs.Iterator.{Yields}
use Rattle.oim_fact.specs.SharedFacts.{facts_behind}
use Rattle.oim_fact.proofs.classes.class_over.Goals as goal

pub returns : goal.returns
returns g c =
    let later =
    subst (λ (s : g.row.I.Denot). Yields g.I.Iterator.next_gives s c.loop-fact.yielded c.loop-fact.fact-iterator)
    c.into_iter-fact-iterator.ensures.into_iter_gives c.loop-fact.yielded_by in (
      c.in-Some.first ∷ c.loop-fact.yielded,
      (c.next-in-loop-fact.new.self, (c.loop-fact.fact-iterator, (c.next.new.self, c.in-Some.ensures.steps, later), c.in-None.ensures.steps)),
      c.class.ensures (arc_value c.in-Some.first.now) (facts_behind c.loop-fact.yielded) c.loop-fact.invariant,
    )
