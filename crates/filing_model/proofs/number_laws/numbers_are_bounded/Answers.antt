use Rattle.filing_model.proofs.Oim.Bounds.{numbers_are_bounded}
use Rattle.filing_model.proofs.number_laws.numbers_are_bounded.Goals as goal

pub returns : goal.returns
returns c = numbers_are_bounded
