-- The versions that a history makes. The project's own.
use Rattle.std.specs.Prelude.{◌≡◌, ◌+◌, Bool, true, false, cond, List, [], ◌∷◌, ◌++◌, Some, IsTrue, ◌⊎◌}
use Rattle.filing_model.specs.Common.Text.{Text}
use Rattle.filing_model.specs.Common.TextMap.{keys}
use Rattle.filing_model.specs.Oim.Reports.{Report}
use Rattle.filing_model.specs.Sessions.Repository.{Repository, nothing, report_at}
use Rattle.filing_model.specs.Sessions.Replies as reply
use Rattle.filing_model.specs.Sessions.Replies.{Reply}
use Rattle.filing_model.specs.Sessions.Sessions.{repository_obeys}
use Rattle.filing_model.specs.Histories.History.{History, repository}

-- whether it is an accepted load or commit
abbrev pub counts : Reply → Bool
counts (reply.Loaded n) = true
counts (reply.Committed n) = true
counts _ = false

-- the repositories after none, one, two and more accepted loads and commits
abbrev pub versions : History → List Repository
versions [] = nothing ∷ []
versions (e ∷ older) = versions older ++ cond (counts e.reply) (repository (e ∷ older) ∷ []) []

-- the names with one more among them
pub record HasOneMore (old new : List Text) : Type 0 where
  pub before : List Text
  pub name : Text
  pub after : List Text
  pub old_is : old ≡ before ++ after
  pub new_is : new ≡ before ++ name ∷ after

-- the names are the same, or there is one more
abbrev pub KeepsNames : List Text → List Text → Type 0
KeepsNames old new = (old ≡ new) ⊎ HasOneMore old new

-- one repository after another: it counts one more, and each report keeps its prefixes and its numeric table
pub record Follows (old new : Repository) : Type 0 where
  pub count : new.count ≡ old.count + 1
  pub names : KeepsNames (keys old.reports) (keys new.reports)
  pub kept : (name : Text) (r : Report) → report_at old name ≡ Some r
      → (s : Report) × (report_at new name ≡ Some s) × (s.names ≡ r.names)

abbrev pub FollowsAll : Repository → List Repository → Type 0
FollowsAll c [] = Unit {0}
FollowsAll c (d ∷ ds) = Follows c d × IsTrue (repository_obeys d) × FollowsAll d ds

-- it begins with the empty repository, each follows the one before, and all obey their allowed duplicates
abbrev pub IsChain : List Repository → Type 0
IsChain [] = ⊥
IsChain (c ∷ cs) = (c ≡ nothing) × FollowsAll c cs
