use Rattle.filing_laws.proofs.Serial.LawfulIsSerial.{each_lawful_history_is_serial}
use Rattle.filing_laws.proofs.whole_runs.each_lawful_history_is_serial.Goals as goal

pub returns : goal.returns
returns c = each_lawful_history_is_serial
