-- The one next reply of a step keeps a lawful history lawful, where each passed amendment was told what it would be told at the repository as it is.
use Rattle.std.proofs.Common.{◌≡◌, sym, refl, ℕ, Option, Some, None, MatchOption, option_and_then}
use Rattle.std.specs.Option.{option_map_or}
use Rattle.filing_model.specs.Sessions.Replies as reply
use Rattle.filing_model.specs.Sessions.Replies.{Reply}
use Rattle.filing_model.specs.Sessions.Things.{Thing}
use Rattle.filing_model.specs.Histories.History.{Step, Load, Open, Ask, Commit, Close, Entry, History, Status, Unknown, Live, Ended, status_of, repository}
use Rattle.filing_model.specs.Histories.Lawful.{IsNext, IsNextStep, IsSessionStep, IsSessionReply, IsCommitReply, IsPassed}
use Rattle.filing_model.specs.Histories.Lawful.{next_reply, reply_at_status, session_reply, commit_reply_of, passed_reply}
use Rattle.filing_model.specs.Histories.Lawful.{conflict_of, call_reply, load_reply, entered_under}
use Rattle.filing_model.specs.declared.kind.Kind.{Kind}
use Rattle.filing_model.specs.declared.kind.Kind.TheVariants.{Review, Amend}
use Rattle.filing_laws.proofs.Opening.OwnReplies.{IsSoloAt}

-- a session may pass: where nothing that it read was touched, its replies are those at the repository as it is
abbrev pub MayPass : History → ℕ → Type 0
MayPass h s = status_of s h ≡ Live Amend → conflict_of s h ≡ None → IsSoloAt Amend (repository h) s h

told : (x r : Reply) → Some x ≡ Some r → r ≡ x
told x r e = cc

amendment : (older : History) (s : ℕ) (r : Reply) (c : Option (ℕ × Thing)) → (c ≡ None → IsSoloAt Amend (repository older) s older)
    → option_map_or (λ c. reply.Conflict c.0 c.1) c (passed_reply s older) ≡ r
    → MatchOption c (IsPassed older s r) (λ c. r ≡ reply.Conflict c.0 c.1)
amendment older s r None passes e = record { commit = sym e; earlier = passes refl }
amendment older s r (Some c) passes e = sym e

committing : (older : History) (s : ℕ) (kind : Kind) (r : Reply) → MayPass older s → status_of s older ≡ Live kind → commit_reply_of kind s older ≡ r → IsCommitReply kind older s r
committing older s Review r passes live e = sym e
committing older s Amend r passes live e = amendment older s r (conflict_of s older) (passes live) e

session_answer : (older : History) (s : ℕ) (kind : Kind) (step : Step) (r : Reply) → MayPass older s → status_of s older ≡ Live kind
    → session_reply older s kind step ≡ Some r → IsSessionReply older s kind step r
session_answer older s kind (Load name x) r passes live e = let none : None ≡ Some r = e in cc
session_answer older s kind (Open k) r passes live e = let none : None ≡ Some r = e in cc
session_answer older s kind (Ask call) r passes live e = told (call_reply kind s older call) r e
session_answer older s kind Commit r passes live e = committing older s kind r passes live (sym (told (commit_reply_of kind s older) r e))
session_answer older s kind Close r passes live e = told reply.Closed r e

at_status : (older : History) (s : ℕ) (step : Step) (r : Reply) → MayPass older s → (status : Status) → status_of s older ≡ status
    → reply_at_status older s step status ≡ Some r → IsSessionStep older (Some s) step r
at_status older s step r passes Unknown known e = let none : None ≡ Some r = e in cc
at_status older s step r passes Ended known e = let none : None ≡ Some r = e in cc
at_status older s step r passes (Live kind) known e = (s, kind, record { of_it = refl; live = known }, session_answer older s kind step r passes known e)

of_session : (older : History) (session : Option ℕ) (step : Step) (r : Reply) → ((s : ℕ) → MayPass older s)
    → option_and_then (λ s. reply_at_status older s step (status_of s older)) session ≡ Some r → IsSessionStep older session step r
of_session older None step r passes e = let none : None ≡ Some r = e in cc
of_session older (Some s) step r passes e = at_status older s step r (passes s) (status_of s older) refl e

pub next_step : (older : History) (session : Option ℕ) (step : Step) (r : Reply) → ((s : ℕ) → MayPass older s)
    → next_reply older session step ≡ Some r → IsNextStep older (entered_under older session step) step r
next_step older session (Load name x) r passes e = (refl, told (load_reply (repository older) name x) r e)
next_step older session (Open kind) r passes e = (refl, told reply.Opened r e)
next_step older session (Ask call) r passes e = of_session older session (Ask call) r passes e
next_step older session Commit r passes e = of_session older session Commit r passes e
next_step older session Close r passes e = of_session older session Close r passes e

-- ---- what follows lawfully

entered : (older : History) (session : Option ℕ) (step : Step) (r : Reply) → IsNextStep older session step r → entered_under older session step ≡ session
entered older session (Load name x) r h = sym h.0
entered older session (Open kind) r h = sym h.0
entered older session (Ask call) r h = refl
entered older session Commit r h = refl
entered older session Close r h = refl

-- a lawful next entry stands under the number under which its step is entered
pub entered_under-IsNext : (older : History) (e : Entry) → IsNext older e → entered_under older e.session e.step ≡ e.session
entered_under-IsNext older e h = entered older e.session e.step e.reply h
