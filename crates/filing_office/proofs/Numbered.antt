-- How many versions a history has, and which entries make one.
use Rattle.std.proofs.Common.{◌≡◌, ◌∙◌, ap, ℕ, true, false, Option}
use Rattle.std.proofs.Common.{true≢false}
use Rattle.filing_model.specs.Sessions.Replies.{Reply}
use Rattle.filing_model.specs.Sessions.Sessions.{solo_copy}
use Rattle.filing_model.specs.Histories.History.{Step, Load, Open, Ask, Commit, Close, History, base_of, calls_of}
use Rattle.filing_model.specs.Histories.Lawful.{IsNextStep}
use Rattle.filing_model.specs.Histories.Versions.{counts}
use Rattle.filing_laws.proofs.Touching.EntryCases.{answer_is_quiet}
use Rattle.filing_core.specs.Prepared.{is_load_or_commit}

-- a step that is no load and no commit makes no version
pub makes_none : (h : History) (session : Option ℕ) (step : Step) (r : Reply) → is_load_or_commit step ≡ false → IsNextStep h session step r → counts r ≡ false
makes_none h session (Load name x) r other next = absurd (true≢false other)
makes_none h session (Open kind) r other next = ap counts next.1
makes_none h session (Ask call) r other next = ap counts next.3 ∙ answer_is_quiet next.1 call (solo_copy next.1 (base_of next.0 h) (calls_of next.0 h))
makes_none h session Commit r other next = absurd (true≢false other)
makes_none h session Close r other next = ap counts next.3
