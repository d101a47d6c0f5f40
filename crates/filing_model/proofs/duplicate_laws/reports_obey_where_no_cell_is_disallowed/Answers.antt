use Rattle.filing_model.proofs.Oim.DisallowedCells.{obeys_where_no_cell_is_disallowed}
use Rattle.filing_model.proofs.duplicate_laws.reports_obey_where_no_cell_is_disallowed.Goals as goal

pub returns : goal.returns
returns c = obeys_where_no_cell_is_disallowed
