use Rattle.filing_model.proofs.Oim.DimensionSets.{prefixes_of-IsPermutation}
use Rattle.filing_model.proofs.fact_laws.prefixes_in_any_order.Goals as goal

pub returns : goal.returns
returns c = prefixes_of-IsPermutation
