use Rattle.filing_model.proofs.Oim.Intervals.{meets_where_a_number_is_shared}
use Rattle.filing_model.proofs.number_laws.intervals_meet_where_a_number_is_shared.Goals as goal

pub returns : goal.returns
returns c = meets_where_a_number_is_shared
