use Rattle.filing_session.proofs.RunStates.{each_session_runs_alone}
use Rattle.filing_session.proofs.runs.each_session_runs_alone.Goals as goal

pub returns : goal.returns
returns c = each_session_runs_alone
