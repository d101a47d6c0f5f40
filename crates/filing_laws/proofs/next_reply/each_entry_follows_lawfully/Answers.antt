use Rattle.filing_laws.proofs.Histories.UntouchedIsSerial.{each_entry_follows_lawfully}
use Rattle.filing_laws.proofs.next_reply.each_entry_follows_lawfully.Goals as goal

pub returns : goal.returns
returns c = each_entry_follows_lawfully
