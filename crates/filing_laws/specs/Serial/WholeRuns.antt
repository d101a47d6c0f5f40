-- Of whole runs of sessions. Each that committed is compared with the sequential repository, which runs it whole at its commit.
-- Every other is compared with the repository of its opening.
use Rattle.std.specs.Prelude.{◌≡◌, ℕ, Bool, true, false, cond, not, ◌&&◌, List, [], ◌∷◌, ◌++◌, All, Option, Some, None, MatchOption}
use Rattle.std.specs.List.{filter, last_or}
use Rattle.std.specs.Option.{option_map_or}
use Rattle.filing_model.specs.Common.Text.{Text}
use Rattle.filing_model.specs.Oim.Reports.{Report}
use Rattle.filing_model.specs.Sessions.Repository.{Repository, nothing, with_report}
use Rattle.filing_model.specs.Sessions.Calls.{Call}
use Rattle.filing_model.specs.Sessions.Replies as reply
use Rattle.filing_model.specs.Sessions.Replies.{Reply}
use Rattle.filing_model.specs.Sessions.Sessions.{Ending, Committing, Closing, Unended, solo, repository_obeys}
use Rattle.filing_model.specs.Histories.History.{Step, Load, Open, Commit, Close, Entry, History, is_of, calls_of, base_of, repository}
use Rattle.filing_model.specs.Histories.Lawful.{IsLawful}
use Rattle.filing_model.specs.Histories.Versions.{versions}
use Rattle.filing_model.specs.declared.kind.Kind.{Kind}
use Rattle.filing_model.specs.declared.kind.Kind.TheVariants.{Amend}
use Rattle.filing_laws.specs.Stamping.Numbers.{IsEntryOf}
use Rattle.filing_laws.specs.Histories.Played.{SessionStep, played}

-- ---- one session's run

-- all replies to a session in order: to its opening, to its calls, and to its Commit or Close
abbrev pub all_replies_of : ℕ → History → List Reply
all_replies_of s [] = []
all_replies_of s (e ∷ older) = all_replies_of s older ++ cond (is_of s e) (e.reply ∷ []) []

abbrev pub kind_after : Step → Option Kind → Option Kind
kind_after (Open kind) before = Some kind
kind_after _ before = before

-- the kind under which a session was opened, or none
abbrev pub kind_of : ℕ → History → Option Kind
kind_of s [] = None
kind_of s (e ∷ older) = cond (is_of s e) (kind_after e.step (kind_of s older)) (kind_of s older)

abbrev pub ending_after : Step → Ending → Ending
ending_after Commit before = Committing
ending_after Close before = Closing
ending_after _ before = before

-- how a session has ended, or that it has not
abbrev pub ending_of : ℕ → History → Ending
ending_of s [] = Unended
ending_of s (e ∷ older) = cond (is_of s e) (ending_after e.step (ending_of s older)) (ending_of s older)

-- whether the step is a Commit
abbrev pub is_commit : Step → Bool
is_commit Commit = true
is_commit _ = false

-- whether the entry is this session's Commit
abbrev pub commits : ℕ → Entry → Bool
commits s e = is_of s e && is_commit e.step

-- what a session was told at its Commit
abbrev pub told_at_commit : ℕ → History → Option Reply
told_at_commit s [] = None
told_at_commit s (e ∷ older) = cond (commits s e) (Some e.reply) (told_at_commit s older)

-- the repository just before a session's Commit, and just after it
abbrev pub before_commit : ℕ → History → Repository
before_commit s [] = nothing
before_commit s (e ∷ older) = cond (commits s e) (repository older) (before_commit s older)

abbrev pub after_commit : ℕ → History → Repository
after_commit s [] = nothing
after_commit s (e ∷ older) = cond (commits s e) (repository (e ∷ older)) (after_commit s older)

-- a session was committed under some number
abbrev pub IsCommitted : ℕ → History → Type 0
IsCommitted s h = (n : ℕ) × (told_at_commit s h ≡ Some (reply.Committed n))

-- ---- a committed session

pub record IsRunWholeAtItsCommit (s : ℕ) (h : History) : Type 0 where
  pub kind : kind_of s h ≡ Some Amend
  pub replies : all_replies_of s h ≡ (solo Amend (before_commit s h) (calls_of s h) Committing).replies
  pub effect : after_commit s h ≡ (solo Amend (before_commit s h) (calls_of s h) Committing).result

-- a committed session's replies and effect are those of the sequential repository running it whole at its commit
abbrev pub CommittedSessionsRunWholeAtTheirCommit : History → Type 0
CommittedSessionsRunWholeAtTheirCommit h = (s : ℕ) → IsCommitted s h → IsRunWholeAtItsCommit s h

-- ---- every session, at its opening

-- they are all replies of the solo run at this repository; for an amendment that commits, all but the last, which is the reply to its commit
abbrev pub AreSoloReplies : Kind → Ending → Repository → List Call → List Reply → Type 0
AreSoloReplies Amend Committing c calls replies = (r : Reply)
    × (replies ≡ (solo Amend c calls Unended).replies ++ r ∷ [])
AreSoloReplies kind ending c calls replies = replies ≡ (solo kind c calls ending).replies

-- every session's replies, an amendment's reply to its commit aside, are those at its opening:
-- a review's, be it committed, closed or not ended, and those of an amendment that was closed, refused or not ended.
-- One that was not opened has none
abbrev pub SessionsReplyAsAtTheirOpening : History → Type 0
SessionsReplyAsAtTheirOpening h = (s : ℕ)
    → MatchOption (kind_of s h) (all_replies_of s h ≡ [])
    (λ kind. AreSoloReplies kind (ending_of s h) (base_of s h) (calls_of s h) (all_replies_of s h))

-- ---- what leaves the repository as it was

-- whether the step is a load that was accepted, or a commit that passed
abbrev pub is_accepted : Step → Reply → Bool
is_accepted (Load name r) (reply.Loaded n) = true
is_accepted Commit (reply.Committed n) = true
is_accepted _ _ = false

-- the history without a session's entries
abbrev pub without : ℕ → History → History
without s h = filter (λ e. not (is_of s e)) h

-- a refused or abandoned session changes no report:
-- each entry but an accepted load and a passed commit leaves the repository as it was, and a session that was not committed,
-- be it refused, closed or not ended, leaves the repository that would be there without it
pub record RefusedAndAbandonedChangeNothing (h : History) : Type 0 where
  pub entries : (e : Entry) (older : History) → IsEntryOf h e older → is_accepted e.step e.reply ≡ false
      → repository (e ∷ older) ≡ repository older
  pub sessions : (s : ℕ) → ¬ IsCommitted s h → repository (without s h) ≡ repository h

-- ---- versions

-- every version obeys its declared allowed duplicates
abbrev pub VersionsObey : History → Type 0
VersionsObey h = All (λ c. repository_obeys c ≡ true) (versions h)

-- ---- the sequential repository

-- one turn of it: a load, or a session that is run whole
pub data Turn : Type 0 where
  Loading : Text → Report → Turn
  Running : List Call → Turn

abbrev pub after_turn : Repository → Turn → Repository
after_turn c (Loading name r) = with_report c name r
after_turn c (Running calls) = (solo Amend c calls Committing).result

-- what it is after these turns, one after another
abbrev pub after_turns : Repository → List Turn → Repository
after_turns c [] = c
after_turns c (t ∷ ts) = after_turns (after_turn c t) ts

-- the turn of an entry, or none
abbrev pub load_in : Step → List Turn
load_in (Load name r) = Loading name r ∷ []
load_in _ = []

abbrev pub turn_in : Reply → Option ℕ → Step → History → List Turn
turn_in (reply.Loaded n) session step older = load_in step
turn_in (reply.Committed n) session step older = option_map_or (λ s. Running (calls_of s older) ∷ []) session []
turn_in _ session step older = []

-- the accepted loads and the committed sessions of a history, each with all its calls, in the order of their entries
abbrev pub turns_of : History → List Turn
turns_of [] = []
turns_of (e ∷ older) = turns_of older ++ turn_in e.reply e.session e.step older

-- the repository is that of the history: what the sequential repository is after its turns, and the newest of its versions
pub record RepositoryIsThatOfTheTurns (h : History) : Type 0 where
  pub sequential : repository h ≡ after_turns nothing (turns_of h)
  pub newest : last_or None (versions h) ≡ Some (repository h)

-- ---- serial validation

-- a history as serial validation makes it, sentence by sentence
pub record IsSerial (h : History) : Type 0 where
  pub committed : CommittedSessionsRunWholeAtTheirCommit h
  pub opened : SessionsReplyAsAtTheirOpening h
  pub refused : RefusedAndAbandonedChangeNothing h
  pub versions : VersionsObey h
  pub repository : RepositoryIsThatOfTheTurns h

-- every lawful history is one
abbrev pub EachLawfulHistoryIsSerial : Type 0
EachLawfulHistoryIsSerial = (h : History) → IsLawful h → IsSerial h

-- and so is what steps make, whatever the order in which those of any sessions fall
abbrev pub EachOrderOfStepsIsSerial : Type 0
EachOrderOfStepsIsSerial = (steps : List SessionStep) → IsSerial (played steps)
