use Rattle.filing_model.proofs.Reading.WrittenValues.{read_again}
use Rattle.filing_model.proofs.info_laws.texts_are_read_again.Goals as goal

pub returns : goal.returns
returns c = read_again
