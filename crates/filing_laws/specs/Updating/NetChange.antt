-- Of a session's net change: what it makes of the repository as it is, and that its new facts and declared values alone decide whether the commit is refused.
use Rattle.std.specs.Prelude.{◌≡◌, ℕ, true, false, ◌∷◌, Option, Some, None, option_map}
use Rattle.std.specs.Option.{option_map_or}
use Rattle.filing_model.specs.Common.Text.{Text}
use Rattle.filing_model.specs.Oim.Dimensions.{Dims}
use Rattle.filing_model.specs.Oim.Facts.{Fact}
use Rattle.filing_model.specs.Oim.Reports.{Report}
use Rattle.filing_model.specs.Sessions.Repository.{Repository, report_at}
use Rattle.filing_model.specs.Oim.Duplicates.{class_of, least_disallowed}
use Rattle.filing_model.specs.Sessions.Queries.{cell_facts, cell_ids}
use Rattle.filing_model.specs.Sessions.Changes.{Change, change_at, declared_in, laid_over, after_change, find_map, first_disallowed}
use Rattle.filing_model.specs.Sessions.Replies as reply
use Rattle.filing_model.specs.Sessions.Replies.{Reply}
use Rattle.filing_model.specs.Sessions.Sessions.{repository_obeys, refusal_of, solo_copy}
use Rattle.filing_model.specs.Histories.History.{Entry, History, Live, status_of, calls_of, repository}
use Rattle.filing_model.specs.Histories.Touches.{net_change_of}
use Rattle.filing_model.specs.Histories.Lawful.{IsLawful}
use Rattle.filing_model.specs.declared.kind.Kind.TheVariants.{Amend}
use Rattle.filing_laws.specs.Updating.Obeying.{is_allowed}
use Rattle.filing_laws.specs.Serial.Untouched.{ReadsAreUntouched}

-- ---- net changes

-- the amendment is open, and nothing that it has read was touched since its opening
pub record IsUntouchedAmendment (h : History) (s : ℕ) : Type 0 where
  pub lawful : IsLawful h
  pub live : status_of s h ≡ Live Amend
  pub untouched : ReadsAreUntouched Amend s h

-- its copy at the end of its solo run at the repository as it is
abbrev pub copy_now : History → ℕ → Repository
copy_now h s = solo_copy Amend (repository h) (calls_of s h)

-- its net change, which is told at the repository of its opening, makes of the repository as it is that copy
abbrev pub EachNetChangeMakesTheCopy : Type 0
EachNetChangeMakesTheCopy = (h : History) (s : ℕ) → IsUntouchedAmendment h s
    → laid_over (net_change_of s h) (repository h) ≡ copy_now h s

-- so each accepted commit of a lawful history leaves its net change laid over the repository before it
abbrev pub EachCommitLaysItsNetChange : Type 0
EachCommitLaysItsNetChange = (h : History) (e : Entry) (s n : ℕ) → IsLawful (e ∷ h) → e.session ≡ Some s
    → e.reply ≡ reply.Committed n → repository (e ∷ h) ≡ after_change (net_change_of s h) (repository h)

-- ---- new facts and disallowed cells

-- the change puts a fact with these dimensions into the report
pub record PutsFact (change : Change) (name : Text) (dims : Dims) : Type 0 where
  pub id : Text
  pub fact : Fact
  pub new : change_at change name id ≡ Some (Some fact)
  pub in_cell : fact.dims ≡ dims

-- the report is there, and does not allow its cell with these dimensions
pub record IsDisallowedCell (c : Repository) (name : Text) (dims : Dims) : Type 0 where
  pub report : Report
  pub there : report_at c name ≡ Some report
  pub disallowed : is_allowed report.allowed report.facts.entries dims ≡ false

-- where a change is laid over a repository that obeys, it puts a fact into each cell that is then disallowed, but for reports that are to declare a value
abbrev pub EachDisallowedCellHoldsANewFact : Type 0
EachDisallowedCellHoldsANewFact = (c : Repository) (change : Change) (name : Text) (dims : Dims)
    → repository_obeys c ≡ true → declared_in change name ≡ None → IsDisallowedCell (laid_over change c) name dims
    → PutsFact change name dims

-- so does the net change of an untouched amendment into each disallowed cell of its copy
abbrev pub EachDisallowedCellOfACopyHoldsANewFact : Type 0
EachDisallowedCellOfACopyHoldsANewFact = (h : History) (s : ℕ) (name : Text) (dims : Dims) → IsUntouchedAmendment h s
    → declared_in (net_change_of s h) name ≡ None → IsDisallowedCell (copy_now h s) name dims
    → PutsFact (net_change_of s h) name dims

-- ---- the least of them

-- the least report that has a disallowed cell, with the least such cell
abbrev pub least_disallowed_of : Repository → Option (Text × Dims)
least_disallowed_of c =
    find_map (λ e. option_map (λ dims. (e.0, dims)) (least_disallowed e.1.allowed e.1.facts.entries)) c.reports.entries

-- how a commit is refused by this cell
abbrev pub refusal_at : Repository → Text × Dims → Reply
refusal_at c d = option_map_or (λ r. reply.Disallowed d.0 (class_of (cell_facts d.1 r.facts)) (cell_ids d.1 r.facts))
    (report_at c d.0) reply.NoReport

-- the first disallowed cell of the new facts, and of all facts where a value was declared, is the least of all, and the refusal tells it
pub record IsDecidedByNewFacts (c : Repository) (change : Change) : Type 0 where
  pub least : first_disallowed c change ≡ least_disallowed_of c
  pub refusal : refusal_of c ≡ option_map (refusal_at c) (first_disallowed c change)

-- where a change is laid over a repository that obeys
abbrev pub EachChangeIsDecidedByItsNewFacts : Type 0
EachChangeIsDecidedByItsNewFacts = (c : Repository) (change : Change) → repository_obeys c ≡ true
    → IsDecidedByNewFacts (laid_over change c) change

-- so the net change of an untouched amendment decides whether its copy is refused
abbrev pub EachCopyIsDecidedByItsNewFacts : Type 0
EachCopyIsDecidedByItsNewFacts = (h : History) (s : ℕ) → IsUntouchedAmendment h s
    → IsDecidedByNewFacts (copy_now h s) (net_change_of s h)
