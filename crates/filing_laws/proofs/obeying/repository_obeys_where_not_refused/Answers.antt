use Rattle.filing_laws.proofs.Updating.AllowedCells.{repository_obeys_where_not_refused}
use Rattle.filing_laws.proofs.obeying.repository_obeys_where_not_refused.Goals as goal

pub returns : goal.returns
returns c = repository_obeys_where_not_refused
