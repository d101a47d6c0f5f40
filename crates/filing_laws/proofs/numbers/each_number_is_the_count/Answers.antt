use Rattle.filing_laws.proofs.Stamping.RisingNumbers.{each_number_is_the_count}
use Rattle.filing_laws.proofs.numbers.each_number_is_the_count.Goals as goal

pub returns : goal.returns
returns c = each_number_is_the_count
