-- The names of reports that are kept on the way through a history. All of it is the project's own.
use Rattle.std.specs.Prelude.{◌≡◌, Option, Some, None, is_some, unwrap_or}
use Rattle.filing_model.specs.Common.Text.{Text}
use Rattle.filing_model.specs.Common.TextMap.{TextMap, get}
use Rattle.filing_model.specs.Sessions.Repository.{Repository, report_at}
use Rattle.filing_model.specs.Sessions.Replies as reply
use Rattle.filing_model.specs.Sessions.Replies.{Reply}
use Rattle.filing_model.specs.Histories.History.{Step, Load, Entry, History, repository}
use Rattle.history_views.specs.Versions.{Seeks, version_kept}
use Rattle.history_views.specs.declared.named.NamedVersion.{NamedVersion}

abbrev pub name_in : Step → Option Text
name_in (Load name r) = Some name
name_in _ = None

abbrev pub name_told : Reply → Step → Option Text
name_told (reply.Loaded number) step = name_in step
name_told _ step = None

-- the name of the report that an entry has put into the repository
abbrev pub name_loaded : Entry → Option Text
name_loaded e = name_told e.reply e.step

-- these are the names of the reports
abbrev pub HasNames : {X : Type 0} → TextMap X → Repository → Type 0
HasNames names c = (name : Text) → is_some (get names name) ≡ is_some (report_at c name)

-- the version is sought; the names are those of the reports that it has, or of those so far
abbrev pub SeeksNamed : NamedVersion → History → Type 0
SeeksNamed n h = Seeks n.version h × HasNames n.names (unwrap_or (version_kept n.version.found) (repository h))

-- of the number with which it began
abbrev pub SeeksNamedOn : NamedVersion → NamedVersion → History → Type 0
SeeksNamedOn first n h = (n.version.number ≡ first.version.number) × SeeksNamed n h
