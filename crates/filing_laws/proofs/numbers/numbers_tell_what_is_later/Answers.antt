use Rattle.filing_laws.proofs.Stamping.RisingNumbers.{numbers_tell_what_is_later}
use Rattle.filing_laws.proofs.numbers.numbers_tell_what_is_later.Goals as goal

pub returns : goal.returns
returns c = numbers_tell_what_is_later
