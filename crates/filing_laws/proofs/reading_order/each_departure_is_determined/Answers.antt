use Rattle.filing_laws.proofs.Histories.ReadingOrders.{each_departure_is_the_first_that_does_not_follow, each_departure_is_determined}
use Rattle.filing_laws.proofs.reading_order.each_departure_is_determined.Goals as goal

pub returns-clause-first : goal.returns-clause-first
returns-clause-first c = each_departure_is_the_first_that_does_not_follow

pub returns-clause-determined : goal.returns-clause-determined
returns-clause-determined c = each_departure_is_determined
