-- What is played is lawful, and each lawful history is what its own steps play.
use Rattle.std.proofs.Common.{◌≡◌, ◌∙◌, ap, refl, ℕ, List, [], ◌∷◌, ◌++◌, Option, Some, None, option_and_then}
use Rattle.std.specs.Option.{option_map_or}
use Rattle.filing_model.specs.Sessions.Replies.{Reply}
use Rattle.filing_model.specs.Histories.History.{Step, Load, Open, Ask, Commit, Close, Entry, History, Status, Unknown, Live, Ended, status_of}
use Rattle.filing_model.specs.Histories.Lawful.{IsLawful, next_reply, reply_at_status, after_step, entered_under}
use Rattle.filing_laws.specs.Histories.NextReply.{IsOfOpenSession, MayBeTaken}
use Rattle.filing_laws.specs.Histories.Played.{SessionStep, played_on, played, steps_of, PlayedAreTheLawful}
use Rattle.filing_laws.proofs.Histories.UntouchedIsSerial.{next_reply_is_lawful, each_entry_follows_lawfully}

-- ---- whatever is played is lawful

pub step_is_lawful : (h : History) (session : Option ℕ) (step : Step) → IsLawful h → (o : Option Reply) → next_reply h session step ≡ o
    → IsLawful (option_map_or (λ r. record { session = entered_under h session step; step = step; reply = r } ∷ h) o h)
step_is_lawful h session step lawful None e = lawful
step_is_lawful h session step lawful (Some r) e = next_reply_is_lawful h session step r lawful e

played_on_is_lawful : (steps : List SessionStep) (h : History) → IsLawful h → IsLawful (played_on h steps)
played_on_is_lawful [] h lawful = lawful
played_on_is_lawful (l ∷ ls) h lawful = played_on_is_lawful ls (after_step h l.0 l.1) (step_is_lawful h l.0 l.1 lawful (next_reply h l.0 l.1) refl)

pub played_is_lawful : (steps : List SessionStep) → IsLawful (played steps)
played_is_lawful steps = played_on_is_lawful steps [] tt

-- ---- each lawful history is played

played_on_more : (steps more : List SessionStep) (h : History) → played_on h (steps ++ more) ≡ played_on (played_on h steps) more
played_on_more [] more h = refl
played_on_more (l ∷ ls) more h = played_on_more ls more (after_step h l.0 l.1)

step_again : (e : Entry) (older : History) → IsLawful (e ∷ older) → after_step older e.session e.step ≡ e ∷ older
step_again e older lawful =
    let is = each_entry_follows_lawfully older e lawful in
    ap (λ o. option_map_or (λ r. record { session = entered_under older e.session e.step; step = e.step; reply = r } ∷ older) o older) is.told
    ∙ ap (λ session. record { session = session; step = e.step; reply = e.reply } ∷ older) is.number

played_again : (h : History) → IsLawful h → played (steps_of h) ≡ h
played_again [] lawful = refl
played_again (e ∷ older) lawful =
    played_on_more (steps_of older) ((e.session, e.step) ∷ []) []
    ∙ ap (λ h. after_step h e.session e.step) (played_again older lawful.0)
    ∙ step_again e older lawful

-- ---- a step that may not be taken

none_at : (h : History) (s : ℕ) (step : Step) → (status : Status) → status_of s h ≡ status → ¬ IsOfOpenSession h (Some s)
    → reply_at_status h s step status ≡ None
none_at h s step Unknown is not_open = refl
none_at h s step (Live kind) is not_open = absurd (not_open (s, kind, record { of_it = refl; live = is }))
none_at h s step Ended is not_open = refl

no_reply : (h : History) (session : Option ℕ) (step : Step) → ¬ IsOfOpenSession h session
    → option_and_then (λ s. reply_at_status h s step (status_of s h)) session ≡ None
no_reply h None step not_open = refl
no_reply h (Some s) step not_open = none_at h s step (status_of s h) refl not_open

unanswered : (h : History) (session : Option ℕ) (step : Step) → next_reply h session step ≡ None → after_step h session step ≡ h
unanswered h session step e = ap (λ o. option_map_or (λ r. record { session = entered_under h session step; step = step; reply = r } ∷ h) o h) e

no_entry : (h : History) (session : Option ℕ) (step : Step) → ¬ MayBeTaken h session step → after_step h session step ≡ h
no_entry h session (Load name r) not_taken = absurd (not_taken tt)
no_entry h session (Open kind) not_taken = absurd (not_taken tt)
no_entry h session (Ask call) not_taken = unanswered h session (Ask call) (no_reply h session (Ask call) not_taken)
no_entry h session Commit not_taken = unanswered h session Commit (no_reply h session Commit not_taken)
no_entry h session Close not_taken = unanswered h session Close (no_reply h session Close not_taken)

pub played_are_the_lawful : PlayedAreTheLawful
played_are_the_lawful = record { lawful = played_is_lawful; all = played_again; no_entry = no_entry }
