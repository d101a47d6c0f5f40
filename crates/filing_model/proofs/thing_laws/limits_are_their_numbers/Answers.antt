use Rattle.filing_model.proofs.Sessions.Limits.{limits_are_their_numbers}
use Rattle.filing_model.proofs.thing_laws.limits_are_their_numbers.Goals as goal

pub returns : goal.returns
returns c = limits_are_their_numbers
