-- The versions of a history by their numbers. All of it is the project's own.
use Rattle.std.specs.Prelude.{◌≡◌, ℕ, Option, Some, None, option_map}
use Rattle.std.specs.Arc.{arc_value}
use Rattle.std.specs.List.{slice_get}
use Rattle.std.specs.declared.alloc.Global.{Global}
use Rattle.std.specs.declared.sync.Arc.{Arc}
use Rattle.filing_model.specs.Sessions.Repository.{Repository}
use Rattle.filing_model.specs.Histories.History.{History, repository}
use Rattle.filing_model.specs.Histories.Versions.{versions}
use Rattle.filing_version.specs.StampedReports.{StampedReports, repository_in}
use Rattle.history_views.specs.declared.sought.SoughtVersion.{SoughtVersion}

-- the version of a number: the repository after so many accepted loads and commits, where there were so many
abbrev pub version_at : History → ℕ → Option Repository
version_at h number = slice_get (versions h) number

-- the version that is asked for: that of a number, or the last one
abbrev pub version_asked : Option ℕ → History → Option Repository
version_asked None h = Some (repository h)
version_asked (Some number) h = version_at h number

-- the version that is kept, if one is
abbrev pub version_kept : Option (Arc StampedReports Global) → Option Repository
version_kept kept = option_map (λ v. repository_in (arc_value v)) kept

-- what was found on the way through a history: the version of a number; of the last one nothing, since that is known at the end
abbrev pub IsSought : Option ℕ → Option Repository → History → Type 0
IsSought None found h = found ≡ None
IsSought (Some number) found h = found ≡ version_at h number

abbrev pub Seeks : SoughtVersion → History → Type 0
Seeks s h = IsSought s.number (version_kept s.found) h

-- of the number with which it began
abbrev pub SeeksOn : SoughtVersion → SoughtVersion → History → Type 0
SeeksOn first s h = (s.number ≡ first.number) × Seeks s h
