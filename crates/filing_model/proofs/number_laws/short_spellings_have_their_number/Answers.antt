use Rattle.filing_model.proofs.Oim.Numerals.{short_spellings_have_their_number}
use Rattle.filing_model.proofs.number_laws.short_spellings_have_their_number.Goals as goal

pub returns : goal.returns
returns c = short_spellings_have_their_number
