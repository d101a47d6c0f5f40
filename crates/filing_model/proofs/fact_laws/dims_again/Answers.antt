use Rattle.filing_model.proofs.Oim.DimensionSets.{AreDims-from_Ok, Ok-from_AreDims}
use Rattle.filing_model.proofs.fact_laws.dims_again.Goals as goal

pub returns : goal.returns
returns c = (AreDims-from_Ok, Ok-from_AreDims)
