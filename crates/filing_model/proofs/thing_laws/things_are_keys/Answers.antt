use Rattle.filing_model.proofs.Sessions.Things.{things_are_keys}
use Rattle.filing_model.proofs.thing_laws.things_are_keys.Goals as goal

pub returns : goal.returns
returns c = things_are_keys
