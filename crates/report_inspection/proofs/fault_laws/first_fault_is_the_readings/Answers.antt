use Rattle.report_inspection.proofs.FirstFaults.{first_fault_is_the_readings}
use Rattle.report_inspection.proofs.fault_laws.first_fault_is_the_readings.Goals as goal

pub returns : goal.returns
returns c = first_fault_is_the_readings
