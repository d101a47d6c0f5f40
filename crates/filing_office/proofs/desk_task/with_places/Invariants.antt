use Rattle.std.proofs.Common.{◌≡◌, ◌++◌, map}
use Rattle.filing_office.proofs.desk_task.with_places.Given as goal

-- the tasks that have their places, and those still to come
abbrev pub invariant-loop-place : goal.invariant-loop-place
invariant-loop-place g l = map (λ p. p.at_desk) l.all.items ++ l.place-iterator.iter.rest.items ≡ l.fn.at_desks.items
