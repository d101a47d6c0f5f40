use Rattle.script_reasons.proofs.RefusalTexts.{words_tell_refusals}
use Rattle.script_reasons.proofs.refusal_laws.words_tell_refusals.Goals as goal

pub returns : goal.returns
returns c = words_tell_refusals
