-- The reports of a version, each with the stamps of its parts. The project's own.
use Rattle.std.specs.Prelude.{◌≡◌, ℕ, ◌≤◌, cond, List, [], ◌∷◌, map, None, Some, is_some}
use Rattle.std.specs.Option.{option_map_or}
use Rattle.filing_model.specs.Common.Text.{Text}
use Rattle.filing_model.specs.Common.TextMap.{TextMap, empty, get, insert, from_entries}
use Rattle.filing_model.specs.Oim.Reports.{Report}
use Rattle.filing_model.specs.Sessions.Repository.{Repository}
use Rattle.filing_model.specs.Sessions.Changes.{ReportChange, Change, changed}
use Rattle.filing_model.specs.Sessions.Things as thing
use Rattle.filing_model.specs.Sessions.Things.{Thing, report_of}
use Rattle.filing_model.specs.Histories.Stamps.{Version}
use Rattle.filing_facts.specs.FactChanges.{Part, Id, Cell, Range, fact_changes_of, stamped_by}
use Rattle.filing_stamps.specs.Stamps.{Stamp, stamp_in as part_stamp}

-- a report with the number of its load, that of the last commit that declared its value, and those of its parts
pub record StampedReport : Type 0 where
  pub report : Report
  pub loaded : ℕ
  pub declared : ℕ
  pub stamp : Part → ℕ

-- the map with each value under f
abbrev pub mapped : {X Y : Type 0} → (X → Y) → TextMap X → TextMap Y
mapped f m = from_entries (map (λ e. (e.0, f e.1)) m.entries)

-- the stamp of a thing that lies in the report
abbrev pub stamp_in : Thing → StampedReport → ℕ
stamp_in (thing.Report name) f = f.loaded
stamp_in (thing.Id name id) f = f.stamp (Id id)
stamp_in (thing.Cell name dims) f = f.stamp (Cell dims)
stamp_in (thing.Range name query upto) f = f.stamp (Range query upto)
stamp_in (thing.Policy name) f = f.declared

-- the thing that a part of a report is
abbrev pub thing_in : Text → Part → Thing
thing_in name (Id id) = thing.Id name id
thing_in name (Cell dims) = thing.Cell name dims
thing_in name (Range query upto) = thing.Range name query upto

abbrev pub stamp_at : TextMap StampedReport → Thing → ℕ
stamp_at reports t = option_map_or (stamp_in t) (get reports (report_of t)) 0

-- the version of this number with these reports
abbrev pub version_of : ℕ → TextMap StampedReport → Version
version_of number reports = record {
  repository = record { count = number; reports = mapped (λ f. f.report) reports };
  stamp = stamp_at reports;
}

-- no stamp is greater than the number
pub record IsStampedUpTo (number : ℕ) (reports : TextMap StampedReport) : Type 0 where
  pub up_to : (t : Thing) → stamp_at reports t ≤ number

-- ---- the next version

-- a report that was loaded now
abbrev pub new_stamped_report : ℕ → Report → StampedReport
new_stamped_report number r = record { report = r; loaded = number; declared = 0; stamp = λ part. 0 }

-- a report with a change laid over it
abbrev pub changed_stamped_report : ℕ → ReportChange → StampedReport → StampedReport
changed_stamped_report number change f = record {
  report = changed change f.report;
  loaded = f.loaded;
  declared = cond (is_some change.declared) number f.declared;
  stamp = stamped_by (fact_changes_of change.facts.entries f.report.facts) number f.stamp;
}

-- the reports with the change of each of these laid over it, one after another
abbrev pub stamped_reports_after : ℕ → List (Text × ReportChange) → TextMap StampedReport → TextMap StampedReport
stamped_reports_after number [] reports = reports
stamped_reports_after number (e ∷ es) reports =
    stamped_reports_after number es
    (option_map_or (λ f. insert reports e.0 (changed_stamped_report number e.1 f)) (get reports e.0) reports)

-- each changed report is there
abbrev pub ChangesWhatIsThere : Change → TextMap StampedReport → Type 0
ChangesWhatIsThere change reports = (name : Text) → get reports name ≡ None → get change name ≡ None

-- ---- as code holds them: stamps are a list, since a function has no place in memory

-- a report with its numbers, and the stamps that touched facts left
pub record StampedReportValue : Type 0 where
  pub report : Report
  pub loaded : ℕ
  pub declared : ℕ
  pub stamps : List Stamp

abbrev pub stamped_report_of : StampedReportValue → StampedReport
stamped_report_of r = record {
  report = r.report;
  loaded = r.loaded;
  declared = r.declared;
  stamp = part_stamp r.stamps;
}

-- a number, and the reports by their names
pub record StampedReports : Type 0 where
  pub number : ℕ
  pub reports : TextMap StampedReportValue

-- the version that they are
abbrev pub version_in : StampedReports → Version
version_in v = version_of v.number (mapped stamped_report_of v.reports)

abbrev pub repository_in : StampedReports → Repository
repository_in v = (version_in v).repository

-- ---- parts of a report

-- the report with no facts
abbrev pub without_facts : Report → Report
without_facts r = record r { facts = empty }

-- ---- another report of the same stamps

-- the reports have the old one under the name, and only its report is another in the new one
pub record KeepsItsStamps (reports : TextMap StampedReportValue) (name : Text)
    (old new : StampedReportValue) : Type 0 where
  pub held : get reports name ≡ Some old
  pub stamps : stamped_report_of new ≡ record (stamped_report_of old) { report = new.report }
