-- Versions: a plain repository with its stamps. The stamp of a thing is the number of the last load or commit that touched it, or 0 where none did, so that a commit need not search the history (Kung and Robinson, On Optimistic Methods for Concurrency Control, 1981, serial validation; the stamps are the project's own).
use Rattle.std.specs.Prelude.{ℕ, ◌+◌, Bool, true, cond, ◌&&◌, is_some}
use Rattle.filing_model.specs.Common.Text.{Text}
use Rattle.filing_model.specs.Oim.Reports.{Report}
use Rattle.filing_model.specs.Sessions.Repository.{Repository, nothing, with_report}
use Rattle.filing_model.specs.Sessions.Changes.{Change, change_at, after_change}
use Rattle.filing_model.specs.Sessions.Things as thing
use Rattle.filing_model.specs.Sessions.Things.{Thing, thing_eq}
use Rattle.filing_model.specs.Histories.Touches.{passes_at, is_changed}

-- removed identifiers, emptied cells and ranges have stamps too
pub record Version : Type 0 where
  pub repository : Repository
  pub stamp : Thing → ℕ

-- before the first load
abbrev pub first_version : Version
first_version = record { repository = nothing; stamp = λ t. 0 }

-- the number of the version after this one
abbrev pub next_number : Version → ℕ
next_number v = v.repository.count + 1

-- whether a change stamps a thing: where it touches it, but an identifier only where a fact stands there before or after
abbrev pub is_stamped : Repository → Repository → Change → Thing → Bool
is_stamped before after change (thing.Report name) = is_changed before after change (thing.Report name)
is_stamped before after change (thing.Id name id) =
    is_some (change_at change name id) && passes_at (λ fact. true) before after name id
is_stamped before after change (thing.Cell name dims) = is_changed before after change (thing.Cell name dims)
is_stamped before after change (thing.Range name query upto) =
    is_changed before after change (thing.Range name query upto)
is_stamped before after change (thing.Policy name) = is_changed before after change (thing.Policy name)

-- the version with a change laid over it
abbrev pub version_after : Change → Version → Version
version_after change v = record {
  repository = after_change change v.repository;
  stamp = λ t. cond (is_stamped v.repository (after_change change v.repository) change t) (next_number v) (v.stamp t);
}

-- the version with one report more, which stamps its name alone
abbrev pub version_with : Text → Report → Version → Version
version_with name r v = record {
  repository = with_report v.repository name r;
  stamp = λ t. cond (thing_eq t (thing.Report name)) (next_number v) (v.stamp t);
}
