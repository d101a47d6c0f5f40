use Rattle.filing_laws.proofs.Updating.AllowedCells.{obeys_where_each_cell_is_allowed}
use Rattle.filing_laws.proofs.obeying.obeys_where_each_cell_is_allowed.Goals as goal

pub returns : goal.returns
returns c = obeys_where_each_cell_is_allowed
