use Rattle.filing_session.proofs.PrunedChanges.{each_amendment_stages_its_net_change}
use Rattle.filing_session.proofs.runs.each_amendment_stages_its_net_change.Goals as goal

pub returns : goal.returns
returns c = each_amendment_stages_its_net_change
