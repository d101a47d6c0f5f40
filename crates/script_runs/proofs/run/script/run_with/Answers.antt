use Rattle.std.proofs.Common.{[]}
use Rattle.script_runs.proofs.Scripts.{script_cut, script_whole}
use Rattle.script_runs.proofs.run.script.run_with.Goals as goal

pub returns-in-Ok-clause-script : goal.returns-in-Ok-clause-script
returns-in-Ok-clause-script g c =
    script_whole g.T.TakesSteps.has_taken g.R.Source.state c.args.reads _ _ _ _ _ _ (rw c.in-Ok.is at (c.run_on-taker.ensures.script [] c.requires))

pub returns-in-Err-clause-script : goal.returns-in-Err-clause-script
returns-in-Err-clause-script g c =
    script_cut g.T.TakesSteps.has_taken g.R.Source.state c.args.reads _ _ _ _ _ c.in-Err.fault (rw c.in-Err.is at (c.run_on-taker.ensures.script [] c.requires))
