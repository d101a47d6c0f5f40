use Rattle.filing_laws.proofs.Serial.LawfulIsSerial.{each_order_of_steps_is_serial}
use Rattle.filing_laws.proofs.whole_runs.each_order_of_steps_is_serial.Goals as goal

pub returns : goal.returns
returns c = each_order_of_steps_is_serial
