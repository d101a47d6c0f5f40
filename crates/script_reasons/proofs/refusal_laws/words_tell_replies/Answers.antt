use Rattle.script_reasons.proofs.RefusalTexts.{words_tell_replies}
use Rattle.script_reasons.proofs.refusal_laws.words_tell_replies.Goals as goal

pub returns : goal.returns
returns c = words_tell_replies
