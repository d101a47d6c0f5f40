-- The repository of a history as its accepted loads and its committed sessions' net changes, laid one over another.
use Rattle.std.specs.Prelude.{◌≡◌, ℕ, true, List, [], ◌∷◌, ◌++◌, Option}
use Rattle.std.specs.Option.{option_map_or}
use Rattle.filing_model.specs.Common.Text.{Text}
use Rattle.filing_model.specs.Oim.Reports.{Report}
use Rattle.filing_model.specs.Sessions.Repository.{Repository, nothing, with_report}
use Rattle.filing_model.specs.Sessions.Changes.{Change, after_change}
use Rattle.filing_model.specs.Sessions.Replies as reply
use Rattle.filing_model.specs.Sessions.Replies.{Reply}
use Rattle.filing_model.specs.Sessions.Sessions.{repository_obeys}
use Rattle.filing_model.specs.Histories.History.{Step, Load, History, repository}
use Rattle.filing_model.specs.Histories.Touches.{net_change_of}
use Rattle.filing_model.specs.Histories.Lawful.{IsLawful}

-- a report that is loaded, or a change that is committed
pub data Update : Type 0 where
  Loading : Text → Report → Update
  Changing : Change → Update

abbrev pub after_update : Repository → Update → Repository
after_update c (Loading name r) = with_report c name r
after_update c (Changing change) = after_change change c

-- what they make of a repository, one after another
abbrev pub after_updates : Repository → List Update → Repository
after_updates c [] = c
after_updates c (u ∷ us) = after_updates (after_update c u) us

-- the update of an entry, or none
abbrev pub loading_in : Step → List Update
loading_in (Load name r) = Loading name r ∷ []
loading_in _ = []

abbrev pub update_in : Reply → Option ℕ → Step → History → List Update
update_in (reply.Loaded n) session step older = loading_in step
update_in (reply.Committed n) session step older = option_map_or (λ s. Changing (net_change_of s older) ∷ []) session []
update_in _ session step older = []

-- the accepted loads of a history and the net changes of its committed sessions, in the order of their entries
abbrev pub updates_of : History → List Update
updates_of [] = []
updates_of (e ∷ older) = updates_of older ++ update_in e.reply e.session e.step older

-- the repository is the empty one after these, and obeys its declared allowed duplicates
pub record IsThatOfItsUpdates (h : History) : Type 0 where
  pub made : repository h ≡ after_updates nothing (updates_of h)
  pub obeys : repository_obeys (repository h) ≡ true

-- so it is of each lawful history
abbrev pub EachRepositoryIsThatOfItsUpdates : Type 0
EachRepositoryIsThatOfItsUpdates = (h : History) → IsLawful h → IsThatOfItsUpdates h
