use Rattle.filing_model.proofs.Oim.NumericTables.{is_numeric-table_of}
use Rattle.filing_model.proofs.fact_laws.rows_are_kept.Goals as goal

pub returns : goal.returns
returns c = is_numeric-table_of
