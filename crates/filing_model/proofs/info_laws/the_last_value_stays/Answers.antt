use Rattle.filing_model.proofs.Reading.DeclaredValues.{set_twice}
use Rattle.filing_model.proofs.info_laws.the_last_value_stays.Goals as goal

pub returns : goal.returns
returns c = set_twice
