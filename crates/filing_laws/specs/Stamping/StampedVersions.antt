-- The stamps that versions carry are the numbers of last touches, so that a commit need not search the history.
use Rattle.std.specs.Prelude.{◌≡◌, ℕ, Bool, ◌&&◌, cond, false, List, [], ◌∷◌, Option, Some, None, unwrap_or, nat_lt}
use Rattle.std.specs.List.{list_any}
use Rattle.filing_model.specs.Common.Text.{Text, text_eq}
use Rattle.filing_model.specs.Oim.Reports.{Report}
use Rattle.filing_model.specs.Sessions.Repository.{fact_at}
use Rattle.filing_model.specs.Sessions.Replies as reply
use Rattle.filing_model.specs.Sessions.Things.{Thing}
use Rattle.filing_model.specs.Sessions.Sessions.{solo_copy}
use Rattle.filing_model.specs.Sessions.Changes.{Change, change_at, declared_in, laid_over}
use Rattle.filing_model.specs.Histories.History.{Load, Entry, History, calls_of, replies_of, base_of, repository}
use Rattle.filing_model.specs.Histories.Touches.{staged_places, net_change_of, first_conflict}
use Rattle.filing_model.specs.Histories.Lawful.{IsLawful}
use Rattle.filing_model.specs.Histories.Versions.{counts}
use Rattle.filing_model.specs.Histories.Stamps.{Version, version_after, version_with}
use Rattle.filing_model.specs.declared.kind.Kind.TheVariants.{Amend}
use Rattle.filing_laws.specs.Stamping.Numbers.{greatest_touch}
use Rattle.filing_laws.specs.Updating.NetChange.{IsUntouchedAmendment}

-- the version has the repository of the history, and as stamps the numbers of the last touches in it
pub record IsVersionOf (h : History) (v : Version) : Type 0 where
  pub repository_is : v.repository ≡ repository h
  pub stamps_are : (t : Thing) → v.stamp t ≡ unwrap_or (greatest_touch t h) 0

-- ---- conflicts

-- the first of the things whose stamp is greater than a number, with its stamp
abbrev pub first_stamped : ℕ → (Thing → ℕ) → List Thing → Option (ℕ × Thing)
first_stamped n stamp [] = None
first_stamped n stamp (t ∷ ts) = cond (nat_lt n (stamp t)) (Some (stamp t, t)) (first_stamped n stamp ts)

-- the conflict of a session is the first thing that it has read whose stamp is greater than the number of its base
abbrev pub EachConflictIsStamped : Type 0
EachConflictIsStamped = (h : History) (s : ℕ) (v : Version) (ts : List Thing) → IsLawful h → IsVersionOf h v
    → first_conflict s ts h ≡ first_stamped (base_of s h).count v.stamp ts

-- ---- the next version

-- whether an addition or a removal of an open session was staged at an identifier
abbrev pub is_staged : ℕ → History → Text → Text → Bool
is_staged s h name id = list_any (λ p. text_eq name p.0 && text_eq id p.1)
    (staged_places (calls_of s h) (replies_of s h))

-- what an amendment has staged: at each such identifier the fact of its copy, or that there is none, and the last values that it declared. A net change leaves out what was absent before and after
pub record IsStagedBy (h : History) (s : ℕ) (change : Change) : Type 0 where
  pub facts : (name id : Text)
      → change_at change name id
      ≡ cond (is_staged s h name id) (Some (fact_at (solo_copy Amend (base_of s h) (calls_of s h)) name id)) None
  pub declared : (name : Text) → declared_in change name ≡ declared_in (net_change_of s h) name

-- laid over the repository as it is, it makes what the net change makes
abbrev pub EachStagedChangeMakesTheCopy : Type 0
EachStagedChangeMakesTheCopy = (h : History) (s : ℕ) (change : Change) → IsUntouchedAmendment h s
    → IsStagedBy h s change
    → laid_over change (repository h) ≡ laid_over (net_change_of s h) (repository h)

-- an accepted load makes the version with its report
abbrev pub EachLoadMakesItsVersion : Type 0
EachLoadMakesItsVersion = (h : History) (e : Entry) (name : Text) (r : Report) (n : ℕ) (v : Version) → IsLawful (e ∷ h)
    → IsVersionOf h v
    → e.step ≡ Load name r → e.reply ≡ reply.Loaded n → IsVersionOf (e ∷ h) (version_with name r v)

-- a commit that passes makes the version with what its session put and declared laid over it
abbrev pub EachCommitMakesItsVersion : Type 0
EachCommitMakesItsVersion = (h : History) (e : Entry) (s n : ℕ) (change : Change) (v : Version) → IsLawful (e ∷ h)
    → IsVersionOf h v
    → e.session ≡ Some s → e.reply ≡ reply.Committed n → IsStagedBy h s change
    → IsVersionOf (e ∷ h) (version_after change v)

-- every other entry leaves the version
abbrev pub EachOtherEntryLeavesTheVersion : Type 0
EachOtherEntryLeavesTheVersion = (h : History) (e : Entry) (v : Version) → IsLawful (e ∷ h) → IsVersionOf h v
    → counts e.reply ≡ false
    → IsVersionOf (e ∷ h) v
