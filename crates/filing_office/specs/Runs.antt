-- What a desk that takes a list of steps in a thread of its own leaves. The project's own.
use Rattle.std.specs.Prelude.{◌≡◌, ℕ, ◌+◌, ◌≤◌, List, [], ◌∷◌, ◌++◌, length, cond, Bool, true, false, Option}
use Rattle.std.specs.Prelude.{Some, None, IfSome, Result, Ok, Err, take, string_bytes}
use Rattle.std.specs.List.{All}
use mathlib.Core.List.{IsPrefix}
use Rattle.filing_model.specs.Common.Text.{Text}
use Rattle.filing_model.specs.Common.TextMap.{TextMap, get, insert, remove}
use Rattle.filing_model.specs.Sessions.Repository.{Repository}
use Rattle.filing_model.specs.Histories.Versions.{IsChain}
use Rattle.filing_model.specs.Sessions.Replies as reply
use Rattle.filing_model.specs.Sessions.Replies.{Reply}
use Rattle.filing_model.specs.Sessions.Sessions.{answer}
use Rattle.filing_model.specs.Histories.History.{Step, Load, Open, Ask, Commit, Close}
use Rattle.filing_model.specs.declared.kind.Kind.{Kind}
use Rattle.filing_model.specs.declared.kind.Kind.TheVariants.{Review, Amend}
use Rattle.filing_step.specs.Steps.{reply_of, step_of}
use Rattle.filing_publish.specs.Lists.{EndsWith}
use Rattle.filing_office.specs.Tallies.{Tally, IsCounted}
use Rattle.filing_office.specs.declared.answer.Answer.{Answer}
use Rattle.filing_office.specs.declared.outcome.Outcome.{Outcome}
use Rattle.filing_office.specs.declared.outcome.Outcome.TheVariants.{Answered, NameInUse, NoSession, NoMemory}
use Rattle.filing_office.specs.declared.session_place.SessionPlace.{SessionPlace}
use Rattle.filing_office.specs.declared.session_place.SessionPlace.TheVariants as place
use Rattle.filing_office.specs.declared.work.DeskStep.{DeskStep}

-- what a desk has counted, what its reviewer has seen or learnt where it has one, and the names in use, each with the place of its session
pub record RunState : Type 0 where
  pub tally : Tally
  pub seen : Option (List Repository)
  pub names : TextMap SessionPlace

-- and of how many of its outcomes the reviewer has learnt the receipts
pub record NamedDeskState : Type 0 where
  pub state : RunState
  pub learnt : ℕ

-- ---- answers

-- a step under the lock is counted, and leaves these names in use
pub record IsTaken {J : Type 0} (s t : RunState) (a : Answer J) (names : TextMap SessionPlace) : Type 0 where
  pub counted : IsCounted s.tally t.tally a
  pub seen : t.seen ≡ s.seen
  pub names_are : t.names ≡ names

-- a reply of a review outside the lock has no session and no receipt
pub record IsReviewed {J : Type 0} (a : Answer J) (told : Reply) : Type 0 where
  pub told_so : reply_of a.reply ≡ told
  pub session : a.session ≡ None
  pub receipt : a.receipt ≡ None

-- the list of versions of the receipt, if any
abbrev pub receipt_in : {J : Type 0} → Outcome J → Option (List Repository)
receipt_in (Answered a) = a.receipt
receipt_in _ = None

-- the list of its receipt has at most so many versions
abbrev pub IsWithin : {J : Type 0} → ℕ → Outcome J → Type 0
IsWithin n o = IfSome (receipt_in o) (λ versions. length versions ≤ n)

-- ---- loads

abbrev pub Loads : {J : Type 0} → RunState → RunState → Outcome J → Type 0
Loads s t (Answered a) = (a.session ≡ None) × IsTaken s t a s.names
Loads s t NoMemory = t ≡ s
Loads s t _ = ⊥

-- ---- openings

-- the review is of the last version of the chain that the reviewer has then seen, which no receipt told before is newer than
pub record Reviews {J : Type 0} (seen now_seen : List Repository) (told : List (Outcome J))
    (last : Repository) : Type 0 where
  pub goes_on : IsPrefix seen now_seen
  pub chain : IsChain now_seen
  pub newest : EndsWith now_seen last
  pub not_older : All (IsWithin (last.count + 1)) told

abbrev pub ReviewOpens : {J : Type 0} → RunState → RunState → List (Outcome J) → Text → List Repository → Outcome J
    → Type 0
ReviewOpens s t told name seen (Answered a) =
    IsReviewed a reply.Opened
    × (last : Repository) × (now_seen : List Repository) × Reviews seen now_seen told last
    × (t ≡ record s { seen = Some now_seen; names = insert s.names name (place.Review last) })
ReviewOpens s t told name seen NoMemory = (now_seen : List Repository) × IsPrefix seen now_seen
    × (t ≡ record s { seen = Some now_seen })
ReviewOpens s t told name seen _ = ⊥

abbrev pub OfficeOpens : {J : Type 0} → RunState → RunState → Text → Outcome J → Type 0
OfficeOpens s t name (Answered a) =
    (number : ℕ) × (a.session ≡ Some number) × (reply_of a.reply ≡ reply.Opened)
    × IsTaken s t a (insert s.names name (place.Office number))
OfficeOpens s t name NoMemory = t ≡ s
OfficeOpens s t name _ = ⊥

-- a session to review is the reviewer's where there is one
abbrev pub Opens : {J : Type 0} → RunState → RunState → List (Outcome J) → Text → Kind → Option (List Repository)
    → Outcome J → Type 0
Opens s t told name Review (Some seen) o = ReviewOpens s t told name seen o
Opens s t told name Review None o = OfficeOpens s t name o
Opens s t told name Amend seen o = OfficeOpens s t name o

abbrev pub OpensUnder : {J : Type 0} → RunState → RunState → List (Outcome J) → Text → Kind → Option SessionPlace
    → Outcome J
    → Type 0
OpensUnder s t told name kind (Some p) o = (o ≡ NameInUse) × (t ≡ s)
OpensUnder s t told name kind None o = Opens s t told name kind s.seen o

-- ---- steps of sessions

abbrev pub ends_session : Step → Bool
ends_session Commit = true
ends_session Close = true
ends_session _ = false

-- the names once the step of the session with this name is answered
abbrev pub names_after : Step → Text → TextMap SessionPlace → TextMap SessionPlace
names_after step name names = cond (ends_session step) (remove names name) names

-- what a review is told at its version
abbrev pub reply_of_review : Repository → Step → Reply
reply_of_review last (Ask call) = (answer Review call last).0
reply_of_review last _ = reply.Closed

-- under the lock a session may have been ended by somebody else, and its name is then free
abbrev pub GoesOnAt : {J : Type 0} → RunState → RunState → Text → Step → SessionPlace → Outcome J → Type 0
GoesOnAt s t name step (place.Office number) (Answered a) = (a.session ≡ Some number)
    × IsTaken s t a (names_after step name s.names)
GoesOnAt s t name step (place.Office number) NoSession = t ≡ record s { names = remove s.names name }
GoesOnAt s t name step (place.Office number) NoMemory = t ≡ s
GoesOnAt s t name step (place.Office number) NameInUse = ⊥
GoesOnAt s t name step (place.Review last) (Answered a) = IsReviewed a (reply_of_review last step)
    × (t ≡ record s { names = names_after step name s.names })
GoesOnAt s t name step (place.Review last) NoMemory = t ≡ s
GoesOnAt s t name step (place.Review last) _ = ⊥

abbrev pub StepsUnder : {J : Type 0} → RunState → RunState → Text → Step → Option SessionPlace → Outcome J → Type 0
StepsUnder s t name step (Some p) o = GoesOnAt s t name step p o
StepsUnder s t name step None o = (o ≡ NoSession) × (t ≡ s)

-- ---- one step, after these outcomes

abbrev pub Goes : {J : Type 0} → RunState → RunState → List (Outcome J) → Text → Step → Outcome J → Type 0
Goes s t told name (Load report r) o = Loads s t o
Goes s t told name (Open kind) o = OpensUnder s t told name kind (get s.names name) o
Goes s t told name (Ask call) o = StepsUnder s t name (Ask call) (get s.names name) o
Goes s t told name Commit o = StepsUnder s t name Commit (get s.names name) o
Goes s t told name Close o = StepsUnder s t name Close (get s.names name) o

-- want of memory is an outcome too
abbrev pub outcome_of : {J E : Type 0} → Result (Outcome J) E → Outcome J
outcome_of (Ok o) = o
outcome_of (Err _) = NoMemory

-- ---- whole runs

abbrev pub is_no_memory : {J : Type 0} → Outcome J → Bool
is_no_memory NoMemory = true
is_no_memory _ = false

-- after these outcomes each step has its own, and after want of memory none is taken
abbrev pub Runs : {J : Type 0} → RunState → RunState → List (Outcome J) → List DeskStep → List (Outcome J) → Type 0
Runs s t told [] os = (os ≡ []) × (t ≡ s)
Runs s t told (x ∷ xs) [] = ⊥
Runs s t told (x ∷ xs) (o ∷ os) =
    (mid : RunState)
    × Goes s mid told (string_bytes x.name) (step_of x.step) o
    × cond (is_no_memory o) ((os ≡ []) × (t ≡ mid)) (Runs mid t (told ++ o ∷ []) xs os)

-- so after earlier outcomes, to which those of these steps are appended
abbrev pub RanAfter : {J : Type 0} → RunState → RunState → List (Outcome J) → List DeskStep → List (Outcome J) → Type 0
RanAfter s t told steps all = (os : List (Outcome _)) × Runs s t told steps os × (all ≡ told ++ os)

-- ---- how a run keeps to them

-- the reviewer has learnt the receipts of so many outcomes
abbrev pub HasLearnt : {J : Type 0} → ℕ → Option (List Repository) → List (Outcome J) → Type 0
HasLearnt learnt None told = Unit {0}
HasLearnt learnt (Some seen) told = All (IsWithin (length seen)) (take learnt told)

pub record IsLearnt {J : Type 0} (s : NamedDeskState) (told : List (Outcome J)) : Type 0 where
  pub few : s.learnt ≤ length told
  pub receipts : HasLearnt s.learnt s.state.seen told

-- a review of the reviewer, which first learnt the receipts of these outcomes; where memory was wanted it may have learnt some
abbrev pub IsReviewedFrom : {J E : Type 0} → NamedDeskState → NamedDeskState → List (Outcome J) → Result Repository E
    → Type 0
IsReviewedFrom s t told (Ok last) =
    (seen : List Repository) → s.state.seen ≡ Some seen
    → (now_seen : List Repository) × Reviews seen now_seen told last
    × (t.state ≡ record s.state { seen = Some now_seen })
IsReviewedFrom s t told (Err _) =
    (seen : List Repository) → s.state.seen ≡ Some seen
    → (now_seen : List Repository) × IsPrefix seen now_seen × (t.state ≡ record s.state { seen = Some now_seen })

-- the reviewer, if any, learns the receipts of these outcomes; where memory is wanted it may learn some
abbrev pub Learns : {J A E : Type 0} → RunState → RunState → List (Outcome J) → Option (List Repository) → Result A E
    → Type 0
Learns s t told None result = t ≡ s
Learns s t told (Some seen) (Ok _) = (now_seen : List Repository) × IsPrefix seen now_seen
    × All (IsWithin (length now_seen)) told × (t ≡ record s { seen = Some now_seen })
Learns s t told (Some seen) (Err _) = (now_seen : List Repository) × IsPrefix seen now_seen
    × (t ≡ record s { seen = Some now_seen })
