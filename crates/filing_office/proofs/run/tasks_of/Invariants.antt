use Rattle.std.proofs.Common.{◌≡◌, ◌++◌, map}
use Rattle.filing_office.proofs.run.tasks_of.Given as goal

-- the works that have their tasks, and those still to come
abbrev pub invariant-loop-work : goal.invariant-loop-work
invariant-loop-work g l =
    map (λ at_desk. record { desk = at_desk.desk; reviewer = at_desk.reviewer; steps = at_desk.task.steps }) l.at_desks.items
    ++ l.work-iterator.rest.items ≡ l.fn.works.items
