use Rattle.filing_model.proofs.Oim.Numerals.{only_spellings_are_numbers}
use Rattle.filing_model.proofs.number_laws.only_spellings_are_numbers.Goals as goal

pub returns : goal.returns
returns c = only_spellings_are_numbers
