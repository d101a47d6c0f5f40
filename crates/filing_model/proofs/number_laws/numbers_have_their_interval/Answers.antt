use Rattle.filing_model.proofs.Oim.Intervals.{numbers_have_their_interval}
use Rattle.filing_model.proofs.number_laws.numbers_have_their_interval.Goals as goal

pub returns : goal.returns
returns c = numbers_have_their_interval
