use Rattle.std.proofs.Common.{inr}
use Rattle.filing.proofs.NotedMistakes.{mistakes_noted}
use Rattle.filing.proofs.runs.with_history.record_script.Goals as goal

pub returns-in-Ok-ended-clause-ran : goal.returns-in-Ok-ended-clause-ran
returns-in-Ok-ended-clause-ran g c =
    let b = rw c.in-Ok.is at c.begin_from-from.ensures in
    (b.0, (b.1.0, rw c.in-Ok-ended.is at (c.record_script_observed-run.ensures.script b.0 b.1.1.0 b.1.1.1)))

pub returns-in-Err-ended-clause-ran : goal.returns-in-Err-ended-clause-ran
returns-in-Err-ended-clause-ran g c =
    let b = rw c.in-Ok.is at c.begin_from-from.ensures in
    inr (b.0, (b.1.0, (c.in-Err-ended.fault, (c.from.ensures, rw c.in-Err-ended.is at (c.record_script_observed-run.ensures.script b.0 b.1.1.0 b.1.1.1)))))

pub returns-in-Ok-ended-clause-noted : goal.returns-in-Ok-ended-clause-noted
returns-in-Ok-ended-clause-noted g c =
    mistakes_noted g.R.Source.state _ _ _ _ _ _ (rw c.in-Ok-ended.is at c.record_script_observed-run.ensures.shown)
