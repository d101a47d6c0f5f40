use Rattle.report_inspection.proofs.FirstFaults.{facts_have_faults_where_refused}
use Rattle.report_inspection.proofs.fault_laws.facts_have_faults_where_refused.Goals as goal

pub returns : goal.returns
returns c = facts_have_faults_where_refused
