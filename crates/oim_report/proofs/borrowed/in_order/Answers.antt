use Rattle.std.proofs.Common.{◌≡◌, ◌∙◌, ap, sym, subst, arith, append-nil, ◌++◌}
use Rattle.serde_json.specs.Data.{no_members}
use Rattle.oim_report.proofs.OrderedMembers.{sorted_places}
use Rattle.oim_report.proofs.RisingMembers.{Rise, all_in_range, stay_in_order}
use Rattle.oim_report.proofs.borrowed.in_order.Goals as goal

pub returns-then-names_rise-clause-members : goal.returns-then-names_rise-clause-members
returns-then-names_rise-clause-members c =
    stay_in_order c.args.members.items (subst Rise c.deref.ensures.value c.if-names_rise.ensures) c.requires

pub returns-then-names_rise-clause-range : goal.returns-then-names_rise-clause-range
returns-then-names_rise-clause-range c = all_in_range c.args.members.items no_members c.requires

pub returns-clause-rise : goal.returns-clause-rise
returns-clause-rise c =
    let same : c.in_ok-places.places.entries ≡ c.into_iter-place-iterator.result = grind arith in
    let moved : c.loop-place.found.items ≡ c.into_iter-place-iterator.result =
    sym (append-nil _) ∙ ap (λ left. c.loop-place.found.items ++ left) (sym c.in-None.ensures.steps.0) ∙ c.loop-place.invariant in
    subst Rise (same ∙ sym moved)
    (sorted_places c.in_ok-places.places.entries c.into_iter-place-iterator.ensures.into_iter_gives.5)
