use Rattle.filing_threads.proofs.ScriptTasks.{both_if}
use Rattle.filing_threads.proofs.tasks.run_each.Goals as goal

pub returns-in-Ok : goal.returns-in-Ok
returns-in-Ok g c =
    both_if _ _ _ c.part_results.result
    (λ all desks replies. record { lefts = c.in-Ok.all_left.items; each = c.in-Ok.ensures; desks_are = desks; replies_are = replies })
    c.part_results.ensures.desks c.part_results.ensures.replies
