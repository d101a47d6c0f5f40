-- The laws of stamped versions at worked histories: each premise is met there, and what the law says of it computes.
use Rattle.std.proofs.Common.{◌≡◌, ◌∙◌, ap, sym, refl, Bool, true, false, cond, ◌&&◌, ◌||◌, [], ◌∷◌, List, Option, Some, None, take, unwrap_or}
use Rattle.std.specs.Prelude.{codes}
use Rattle.std.proofs.lemmas.Bool.{and_parts}
use Rattle.filing_model.specs.Common.Text.{Text, text_eq}
use Rattle.filing_model.specs.Common.TextMap.{empty}
use Rattle.filing_model.specs.Oim.Facts.{Fact}
use Rattle.filing_model.specs.Sessions.Repository.{Repository, fact_at}
use Rattle.filing_model.specs.Sessions.Calls.{Any}
use Rattle.filing_model.specs.Sessions.Replies as reply
use Rattle.filing_model.specs.Sessions.Things.{Report, Id, Range, Policy}
use Rattle.filing_model.specs.Sessions.Changes.{Change, with_change}
use Rattle.filing_model.specs.Sessions.Sessions.{solo_copy}
use Rattle.filing_model.specs.Histories.History.{Load, Commit, Close, Entry, History, base_of, calls_of, repository}
use Rattle.filing_model.specs.Histories.Touches.{first_conflict}
use Rattle.filing_model.specs.Histories.Stamps.{Version, version_after, version_with}
use Rattle.filing_model.specs.declared.kind.Kind.TheVariants.{Amend}
use Rattle.filing_model.proofs.Common.Texts.{text_same}
use Rattle.filing_model.proofs.Examples.Setting.{Line, amend, query, removes, commits, closes, played}
use Rattle.filing_model.proofs.Examples.Histories.{r1, loads}
use Rattle.filing_model.proofs.Examples.Ranges.{with_periods}
use Rattle.filing_laws.specs.Stamping.Numbers.{greatest_touch}
use Rattle.filing_laws.specs.Stamping.StampedVersions.{IsVersionOf, IsStagedBy}
use Rattle.filing_laws.proofs.Touching.ChangedPlaces.{change_at-with_change, declared_in-with_change, declared_in-change_between}
use Rattle.filing_laws.proofs.Worked.Instances.{played_is_lawful}
use Rattle.filing_laws.proofs.Stamping.StampedVersions.{each_conflict_is_stamped, each_load_makes_its_version, each_commit_makes_its_version, each_other_entry_leaves_the_version}

-- the version of a history, by the numbers of its touches
abbrev version_of : History → Version
version_of h = record { repository = repository h; stamp = λ t. unwrap_or (greatest_touch t h) 0 }

is_its_version : (h : History) → IsVersionOf h (version_of h)
is_its_version h = record { repository_is = refl; stamps_are = λ t. refl }

-- ---- a load

abbrev loading : Entry
loading = record { session = None; step = Load r1 with_periods; reply = reply.Loaded 1 }

loaded : IsVersionOf (loading ∷ []) (version_with r1 with_periods (version_of []))
loaded = each_load_makes_its_version [] loading r1 with_periods 1 (version_of []) (played_is_lawful (loads with_periods ∷ [])) (is_its_version []) refl refl

pub load_stamps_its_report : unwrap_or (greatest_touch (Report r1) (loading ∷ [])) 0 ≡ 1
load_stamps_its_report = sym (loaded.stamps_are (Report r1))

-- ---- a commit: two sessions, of which the first removes a, and the second pages over it

abbrev lines : List Line
lines = loads with_periods ∷ amend ∷ amend ∷ removes 1 r1 (codes "a") ∷ commits 1 ∷ []

abbrev before : History
before = played (take 4 lines)

abbrev committing : Entry
committing = record { session = Some 1; step = Commit; reply = reply.Committed 2 }

abbrev copy : Repository
copy = solo_copy Amend (base_of 1 before) (calls_of 1 before)

abbrev removing : Change
removing = with_change empty r1 (codes "a") None

removing_is_staged : IsStagedBy before 1 removing
removing_is_staged = record {
  facts = λ name id. change_at-with_change empty r1 (codes "a") None name id ∙ by name id (text_eq name r1 && text_eq id (codes "a")) refl;
  declared = λ name.
      declared_in-with_change empty r1 (codes "a") None name
      ∙ sym (declared_in-change_between (base_of 1 before) copy ((r1, codes "a") ∷ []) name);
}
  where
    by : (name id : Text) (b : Bool) → (text_eq name r1 && text_eq id (codes "a")) ≡ b
        → cond {A = Option (Option Fact)} b (Some None) None ≡ cond (b || false) (Some (fact_at copy name id)) None
    by name id false other = refl
    by name id true here =
        let parts = and_parts (text_eq name r1) (text_eq id (codes "a")) here in
        ap Some (sym (λ i. fact_at copy (text_same name r1 parts.0 i) (text_same id (codes "a") parts.1 i)))

committed : IsVersionOf (committing ∷ before) (version_after removing (version_of before))
committed = each_commit_makes_its_version before committing 1 2 removing (version_of before) (played_is_lawful lines) (is_its_version before) refl refl removing_is_staged

pub commit_stamps_what_it_removed : unwrap_or (greatest_touch (Id r1 (codes "a")) (committing ∷ before)) 0 ≡ 2
commit_stamps_what_it_removed = sym (committed.stamps_are (Id r1 (codes "a")))

pub commit_leaves_the_stamp_of_the_report : unwrap_or (greatest_touch (Report r1) (committing ∷ before)) 0 ≡ 1
commit_leaves_the_stamp_of_the_report = sym (committed.stamps_are (Report r1))

-- the second session's base has the number 1, and what it read the stamp 2
pub page_is_in_conflict : first_conflict 2 (Policy r1 ∷ Range r1 (query Any None) None ∷ []) (committing ∷ before) ≡ Some (2, Range r1 (query Any None) None)
page_is_in_conflict =
    each_conflict_is_stamped (committing ∷ before) 2 (version_after removing (version_of before)) (Policy r1 ∷ Range r1 (query Any None) None ∷ [])
    (played_is_lawful lines) committed

-- ---- a step that counts nothing

abbrev closing : Entry
closing = record { session = Some 2; step = Close; reply = reply.Closed }

closed : IsVersionOf (closing ∷ committing ∷ before) (version_of (committing ∷ before))
closed =
    each_other_entry_leaves_the_version (committing ∷ before) closing (version_of (committing ∷ before))
    (played_is_lawful (loads with_periods ∷ amend ∷ amend ∷ removes 1 r1 (codes "a") ∷ commits 1 ∷ closes 2 ∷ [])) (is_its_version (committing ∷ before)) refl

pub close_leaves_stamps : unwrap_or (greatest_touch (Id r1 (codes "a")) (closing ∷ committing ∷ before)) 0 ≡ 2
close_leaves_stamps = sym (closed.stamps_are (Id r1 (codes "a")))
