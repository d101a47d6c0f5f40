use Rattle.filing_laws.proofs.Stamping.Stamps.{stamps_tell_the_last_touch}
use Rattle.filing_laws.proofs.numbers.stamps_tell_the_last_touch.Goals as goal

pub returns : goal.returns
returns c = stamps_tell_the_last_touch
