use Rattle.line_io.proofs.PlainRuns.{plain_runs}
use Rattle.line_io.proofs.runs.run.Goals as goal

pub returns-clause-runs : goal.returns-clause-runs
returns-clause-runs g c = plain_runs g.M.Machine.replies g.R.Source.state c.args.reads c.run_as.result _ _ _ _ _ _ c.run_as.ensures.runs
