use Rattle.filing_model.proofs.Oim.MixedFacts.{mixed_where_dimensions_differ}
use Rattle.filing_model.proofs.duplicate_laws.facts_are_mixed_where_dimensions_differ.Goals as goal

pub returns : goal.returns
returns c = mixed_where_dimensions_differ
