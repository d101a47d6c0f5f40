use Rattle.filing_laws.proofs.Histories.ReadingOrders.{lawful_in_order_is_lawful}
use Rattle.filing_laws.proofs.reading_order.lawful_in_order_is_lawful.Goals as goal

pub returns : goal.returns
returns c = lawful_in_order_is_lawful
