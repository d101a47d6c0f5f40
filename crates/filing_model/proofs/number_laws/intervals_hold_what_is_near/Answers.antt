use Rattle.filing_model.proofs.Oim.Intervals.{holds_what_is_near}
use Rattle.filing_model.proofs.number_laws.intervals_hold_what_is_near.Goals as goal

pub returns : goal.returns
returns c = holds_what_is_near
