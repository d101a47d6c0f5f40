-- An untouched session was told what it would be told at the repository as it is, so each passed amendment may be entered.
use Rattle.std.proofs.Common.{◌≡◌, ◌∙◌, ap, sym, refl, ℕ, Option, Some, option_and_then}
use Rattle.std.proofs.lemmas.Option.{same_Some}
use Rattle.filing_model.specs.Sessions.Replies as reply
use Rattle.filing_model.specs.Sessions.Replies.{Reply}
use Rattle.filing_model.specs.Sessions.Things.{each_once}
use Rattle.filing_model.specs.Histories.History.{Step, Load, Open, Ask, Commit, Close, History, Live, status_of, calls_of, base_of, repository}
use Rattle.filing_model.specs.Histories.Lawful.{IsLawful, IsNextStep, next_reply, reply_at_status, session_reply, commit_reply_of, call_reply, load_reply, entered_under}
use Rattle.filing_model.specs.declared.kind.Kind.{Kind}
use Rattle.filing_model.specs.declared.kind.Kind.TheVariants.{Amend}
use Rattle.filing_model.proofs.Histories.NextReply.{next_reply-IsNext}
use Rattle.filing_laws.specs.Histories.NextReply.{IsOfOpenSession, MayBeTaken, after_reply, IsOneNextReply, EachStepHasOneReply, EachEntryFollowsLawfully}
use Rattle.filing_laws.specs.Serial.Untouched.{ReadsAreUntouched, EachUntouchedSessionRepliesAsNow, EachUntouchedSessionReadsAsNow}
use Rattle.filing_laws.proofs.Touching.ReportsStay.{reports_stay}
use Rattle.filing_laws.proofs.Agreement.RunsAlike.{IsAlikeRun, run_alike}
use Rattle.filing_laws.proofs.Opening.OwnReplies.{own_replies}
use Rattle.filing_laws.proofs.Touching.UntouchedThingsStand.{known, reads_agree}
use Rattle.filing_laws.proofs.Histories.LawfulNextReply.{MayPass, next_step, entered_under-IsNext}

-- the run of an untouched session, at its opening and now
pub alike_now : (h : History) (s : ℕ) (kind : Kind) → IsLawful h → status_of s h ≡ Live kind → ReadsAreUntouched kind s h → IsAlikeRun kind (calls_of s h) (base_of s h) (repository h)
alike_now h s kind lawful live none = run_alike kind (calls_of s h) (base_of s h) (repository h) (reports_stay h s lawful) (reads_agree h s kind (known h lawful) live none)

pub serial : EachUntouchedSessionRepliesAsNow
serial h s kind lawful live none = own_replies h s kind lawful live ∙ (alike_now h s kind lawful live none).replies

pub reads_as_now : EachUntouchedSessionReadsAsNow
reads_as_now h s kind lawful live none = ap each_once (alike_now h s kind lawful live none).reads

pub may_pass : (h : History) (s : ℕ) → IsLawful h → MayPass h s
may_pass h s lawful live none = serial h s Amend lawful live none

-- the one next reply keeps a lawful history lawful
pub next_reply_is_lawful : (h : History) (session : Option ℕ) (step : Step) (r : Reply) → IsLawful h → next_reply h session step ≡ Some r → IsLawful (after_reply h session step r)
next_reply_is_lawful h session step r lawful e = (lawful, next_step h session step r (λ s. may_pass h s lawful) e)

-- ---- each step that may be taken has one reply

-- a step is answered alike under the number under which it is entered
entered_alike : (h : History) (session : Option ℕ) (step : Step) → next_reply h (entered_under h session step) step ≡ next_reply h session step
entered_alike h session (Load name x) = refl
entered_alike h session (Open kind) = refl
entered_alike h session (Ask call) = refl
entered_alike h session Commit = refl
entered_alike h session Close = refl

only_reply : (h : History) (session : Option ℕ) (step : Step) (r other : Reply) → next_reply h session step ≡ Some r → IsLawful (after_reply h session step other) → other ≡ r
only_reply h session step r other told lawful =
    same_Some other r (sym (next_reply-IsNext h (record { session = entered_under h session step; step = step; reply = other }) lawful.1) ∙ entered_alike h session step ∙ told)

one : (h : History) (session : Option ℕ) (step : Step) → IsLawful h → (r : Reply) → next_reply h session step ≡ Some r → (r : Reply) × IsOneNextReply h session step r
one h session step lawful r told = (r, record { told = told; lawful = next_reply_is_lawful h session step r lawful told; only = λ other next. only_reply h session step r other told next })

of_open : (h : History) (session : Option ℕ) (step : Step) (r : ℕ → Kind → Reply) → ((s : ℕ) (kind : Kind) → session_reply h s kind step ≡ Some (r s kind)) → IsOfOpenSession h session
    → (q : Reply) × (option_and_then (λ s. reply_at_status h s step (status_of s h)) session ≡ Some q)
of_open h session step r told (s, kind, ongoing) =
    (r s kind, ap (option_and_then (λ s. reply_at_status h s step (status_of s h))) ongoing.of_it ∙ ap (reply_at_status h s step) ongoing.live ∙ told s kind)

pub each_step_has_one_reply : EachStepHasOneReply
each_step_has_one_reply h session (Load name x) lawful taken = one h session (Load name x) lawful (load_reply (repository h) name x) refl
each_step_has_one_reply h session (Open kind) lawful taken = one h session (Open kind) lawful reply.Opened refl
each_step_has_one_reply h session (Ask call) lawful taken =
    let told = of_open h session (Ask call) (λ s kind. call_reply kind s h call) (λ s kind. refl) taken in
    one h session (Ask call) lawful told.0 told.1
each_step_has_one_reply h session Commit lawful taken =
    let told = of_open h session Commit (λ s kind. commit_reply_of kind s h) (λ s kind. refl) taken in
    one h session Commit lawful told.0 told.1
each_step_has_one_reply h session Close lawful taken =
    let told = of_open h session Close (λ s kind. reply.Closed) (λ s kind. refl) taken in
    one h session Close lawful told.0 told.1

-- ---- what follows lawfully

may_be_taken : (h : History) (session : Option ℕ) (step : Step) (r : Reply) → IsNextStep h session step r → MayBeTaken h session step
may_be_taken h session (Load name x) r next = tt
may_be_taken h session (Open kind) r next = tt
may_be_taken h session (Ask call) r (s, kind, ongoing, is) = (s, kind, ongoing)
may_be_taken h session Commit r (s, kind, ongoing, is) = (s, kind, ongoing)
may_be_taken h session Close r (s, kind, ongoing, is) = (s, kind, ongoing)

pub each_entry_follows_lawfully : EachEntryFollowsLawfully
each_entry_follows_lawfully h e lawful = record {
  taken = may_be_taken h e.session e.step e.reply lawful.1;
  number = entered_under-IsNext h e lawful.1;
  told = next_reply-IsNext h e lawful.1;
}
