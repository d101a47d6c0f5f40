use Rattle.filing_laws.proofs.Histories.SameReplies.{equal_replies_are_decided}
use Rattle.filing_laws.proofs.Histories.ReadingOrders.{each_next_entry_is_decided}
use Rattle.filing_laws.proofs.reading_order.each_next_entry_is_decided.Goals as goal

pub returns-clause-replies : goal.returns-clause-replies
returns-clause-replies c = equal_replies_are_decided

pub returns-clause-entries : goal.returns-clause-entries
returns-clause-entries c = each_next_entry_is_decided
