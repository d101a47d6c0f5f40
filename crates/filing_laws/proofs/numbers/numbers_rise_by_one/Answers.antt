use Rattle.filing_laws.proofs.Stamping.RisingNumbers.{numbers_rise_by_one}
use Rattle.filing_laws.proofs.numbers.numbers_rise_by_one.Goals as goal

pub returns : goal.returns
returns c = numbers_rise_by_one
