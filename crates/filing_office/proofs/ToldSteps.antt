-- What a step is told whatever the history.
use Rattle.std.proofs.Common.{sym, refl, ap, ℕ, Option, is_some}
use Rattle.filing_model.specs.Histories.History.{Step, Load, Open, Ask, Commit, Close, History}
use Rattle.filing_model.specs.Sessions.Replies as reply
use Rattle.filing_step.specs.Steps.{reply_of}
use Rattle.filing_office.specs.declared.answer.Answer.{Answer}
use Rattle.std.proofs.lemmas.Option.{same_Some}
use Rattle.filing_office.specs.Answers.{IsTold, IsToldUnder}

pub told_of_entered : {J : Type 0} (old new : History) (session : Option ℕ) (step : Step) (a : Answer J) → IsTold old new session step a → IsToldUnder session step a
told_of_entered old new session (Load name r) a told = told.under
told_of_entered old new session (Open kind) a told = (ap is_some told.under, sym (same_Some reply.Opened (reply_of a.reply) told.entered.told))
told_of_entered old new session (Ask call) a told = told.under
told_of_entered old new session Commit a told = told.under
told_of_entered old new session Close a told = told.under
