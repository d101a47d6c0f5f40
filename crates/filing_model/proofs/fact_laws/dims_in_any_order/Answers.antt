use Rattle.filing_model.proofs.Oim.DimensionSets.{dims_of-IsPermutation}
use Rattle.filing_model.proofs.fact_laws.dims_in_any_order.Goals as goal

pub returns : goal.returns
returns c = dims_of-IsPermutation
