-- Of sessions that read nothing that was touched since their opening.
use Rattle.std.specs.Prelude.{◌≡◌, ℕ, None}
use Rattle.filing_model.specs.Sessions.Repository.{Repository}
use Rattle.filing_model.specs.Sessions.Sessions.{solo_replies}
use Rattle.filing_model.specs.Histories.History.{History, Live, status_of, calls_of, replies_of, base_of, repository}
use Rattle.filing_model.specs.Histories.Touches.{things_read, first_conflict}
use Rattle.filing_model.specs.Histories.Lawful.{IsLawful}
use Rattle.filing_model.specs.declared.kind.Kind.{Kind}

-- the session's replies so far are those of its solo run at this repository
abbrev pub RepliesAlone : Kind → Repository → ℕ → History → Type 0
RepliesAlone kind c s h = replies_of s h ≡ solo_replies kind c (calls_of s h)

-- nothing that the session has read was touched since its opening
abbrev pub ReadsAreUntouched : Kind → ℕ → History → Type 0
ReadsAreUntouched kind s h = first_conflict s (things_read kind (base_of s h) (calls_of s h)) h ≡ None

-- each open session was told what it is told alone at the repository of its opening
abbrev pub EachSessionRepliesAsAtItsOpening : Type 0
EachSessionRepliesAsAtItsOpening = (h : History) (s : ℕ) (kind : Kind) → IsLawful h → status_of s h ≡ Live kind
    → RepliesAlone kind (base_of s h) s h

-- and where nothing that it has read was touched, what it is told alone at the repository as it is
abbrev pub EachUntouchedSessionRepliesAsNow : Type 0
EachUntouchedSessionRepliesAsNow = (h : History) (s : ℕ) (kind : Kind) → IsLawful h → status_of s h ≡ Live kind
    → ReadsAreUntouched kind s h → RepliesAlone kind (repository h) s h

-- the session has read the same things that it would read alone at this repository
abbrev pub ReadsAlone : Kind → Repository → ℕ → History → Type 0
ReadsAlone kind c s h = things_read kind (base_of s h) (calls_of s h) ≡ things_read kind c (calls_of s h)

-- and it would read the same things there
abbrev pub EachUntouchedSessionReadsAsNow : Type 0
EachUntouchedSessionReadsAsNow = (h : History) (s : ℕ) (kind : Kind) → IsLawful h → status_of s h ≡ Live kind
    → ReadsAreUntouched kind s h → ReadsAlone kind (repository h) s h
