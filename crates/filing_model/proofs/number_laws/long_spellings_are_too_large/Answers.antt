use Rattle.filing_model.proofs.Oim.Numerals.{long_spellings_are_too_large}
use Rattle.filing_model.proofs.number_laws.long_spellings_are_too_large.Goals as goal

pub returns : goal.returns
returns c = long_spellings_are_too_large
