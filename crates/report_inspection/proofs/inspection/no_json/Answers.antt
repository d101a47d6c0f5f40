use Rattle.std.proofs.Common.{[], sym, subst}
use Rattle.report_inspection.specs.Inspections.{AreFaults}
use Rattle.report_inspection.proofs.ToldFaults.{none_yet}
use Rattle.report_inspection.proofs.inspection.no_json.Goals as goal

pub returns-clause-faults : goal.returns-clause-faults
returns-clause-faults c = c.in_ok-push_told.ensures [] (subst (AreFaults []) (sym c.new-faults.ensures.items) none_yet)
