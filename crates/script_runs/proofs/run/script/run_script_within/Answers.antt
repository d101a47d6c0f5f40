use Rattle.script_runs.proofs.Scripts.{nothing_begun}
use Rattle.script_runs.proofs.run.script.run_script_within.Goals as goal

pub returns-in-Err-clause-script : goal.returns-in-Err-clause-script
returns-in-Err-clause-script g c = nothing_begun g.R.Source.state _ _ _ _
