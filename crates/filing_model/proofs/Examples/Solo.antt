-- Runs of one session alone: what it is told, and what it leaves.
use Rattle.std.specs.Prelude.{◌≡◌, refl, List, [], ◌∷◌, codes, false}
use Rattle.filing_model.specs.Common.TextMap.{empty, insert}
use Rattle.filing_model.specs.Oim.Reports.{Report}
use Rattle.filing_model.specs.Sessions.Repository.{Repository}
use Rattle.filing_model.specs.Sessions.Calls as call
use Rattle.filing_model.specs.Sessions.Calls.{Call}
use Rattle.filing_model.specs.Sessions.Replies.{Staged, Opened, Committed, Disallowed}
use Rattle.filing_model.specs.Sessions.Sessions.{solo, solo_copy, repository_obeys, Committing, Closing}
use Rattle.filing_model.proofs.Examples.Setting.{holding, raw, fact}
use Rattle.filing_model.specs.declared.kind.Kind.TheVariants.{Amend}
use Rattle.filing_model.specs.declared.duplicates.Allowed.TheVariants.{Never, All}
use Rattle.filing_model.specs.declared.duplicates.Class.TheVariants.{Complete}

-- one report with one fact
abbrev base_with : Report → Repository
base_with r = record { count = 1; reports = insert empty (codes "r1") r }

-- it allows no duplicates
abbrev base : Repository
base = base_with (holding Never ((codes "a", fact (codes "x")) ∷ []))

-- it allows all
abbrev lenient : Repository
lenient = base_with (holding All ((codes "a", fact (codes "x")) ∷ []))

-- the same fact again under another identifier
abbrev calls : List Call
calls = call.Add (codes "r1") (codes "b") (raw (codes "x")) ∷ []

-- ---- where the copy disobeys

pub copy_disobeys : repository_obeys (solo_copy Amend base calls) ≡ false
copy_disobeys = refl

pub disobeying_run : (solo Amend base calls Committing).replies ≡ Opened ∷ Staged ∷ Disallowed (codes "r1") Complete (codes "a" ∷ codes "b" ∷ []) ∷ []
disobeying_run = refl

pub disobeying_run_leaves_the_repository : (solo Amend base calls Committing).result ≡ base
disobeying_run_leaves_the_repository = refl

-- ---- where it obeys

pub obeying_run : (solo Amend lenient calls Committing).replies ≡ Opened ∷ Staged ∷ Committed 2 ∷ []
obeying_run = refl

pub obeying_run_leaves_its_copy : (solo Amend lenient calls Committing).result ≡ record (base_with (holding All ((codes "a", fact (codes "x")) ∷ (codes "b", fact (codes "x")) ∷ []))) { count = 2 }
obeying_run_leaves_its_copy = refl

-- a run that is closed leaves the repository too
pub closed_run_leaves_the_repository : (solo Amend lenient calls Closing).result ≡ lenient
closed_run_leaves_the_repository = refl
