-- What differs between two versions of a history. The project's own.
use Rattle.std.specs.Prelude.{ℕ, Option, option_map, option_and_then}
use Rattle.filing_model.specs.Common.Text.{Text}
use Rattle.filing_model.specs.Sessions.Repository.{Repository}
use Rattle.filing_model.specs.Histories.History.{History}
use Rattle.version_differences.specs.LineText.{difference_text}
use Rattle.history_views.specs.Versions.{version_at}

-- of two versions, where there are both
abbrev pub difference_between : Option Text → Option Repository → Option Repository → Option (Option Text)
difference_between report from to = option_and_then (λ c. option_map (difference_text report c) to) from

-- of those of two numbers, in all reports or in the one of a name
abbrev pub difference_asked : ℕ → ℕ → Option Text → History → Option (Option Text)
difference_asked from to report h = difference_between report (version_at h from) (version_at h to)
