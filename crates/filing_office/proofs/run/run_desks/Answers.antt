use Rattle.std.proofs.lemmas.Result.{IfOk-weaker}
use Rattle.filing_office.proofs.WorkTasks.{each_ran}
use Rattle.filing_office.proofs.run.run_desks.Goals as goal

pub returns : goal.returns
returns g c =
    IfOk-weaker c.run_tasks.result _ _
    (λ left is. each_ran c.in_ok-at_desks.at_desks.items c.args.works.items left.items c.in_ok-at_desks.ensures is)
    c.run_tasks.ensures
