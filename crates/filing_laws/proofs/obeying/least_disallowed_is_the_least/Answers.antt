use Rattle.filing_laws.proofs.Updating.AllowedCells.{least_disallowed_is_the_least}
use Rattle.filing_laws.proofs.obeying.least_disallowed_is_the_least.Goals as goal

pub returns : goal.returns
returns c = least_disallowed_is_the_least
