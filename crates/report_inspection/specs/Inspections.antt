-- What an inspection tells of the text of a report. The project's own.
use Rattle.std.specs.Prelude.{◌≡◌, ℕ, ◌<◌, ◌==◌, ◌&&◌, Bool, false, List, [], ◌∷◌, ◌++◌, map, length, Option, None, Some, Result, Ok, Err, unwrap_or}
use Rattle.std.specs.List.{AllByRecursion}
use Rattle.serde_json.specs.Data.{Data}
use Rattle.filing_model.specs.Oim.Duplicates.{obeys}
use Rattle.filing_model.specs.Oim.Facts.{Table}
use Rattle.filing_model.specs.Oim.Reports.{Report}
use Rattle.filing_model.specs.Reading.ReadReport.{ReportFault, read_report_of}
use Rattle.filing_model.specs.declared.duplicates.Allowed.{Allowed}
use Rattle.oim_report.specs.Faults.{report_fault}
use Rattle.report_inspection.specs.Cells.{AreCells, are_allowed}
use Rattle.report_inspection.specs.EachFault.{allowed_in, allowed_known, fact_members, facts_in, facts_read, faults_in, members_in, names_known, report_faults}
use Rattle.report_inspection.specs.declared.fault.Fault.{Fault}
use Rattle.report_inspection.specs.declared.inspection.Inspection.{Inspection}

-- whether a load under a free name would be answered `loaded`,
-- as if the report declared the asked value where there is one:
-- it is read as a report, which obeys that value, or else the declared one
abbrev pub loads : Option Allowed → Result Report ReportFault → Bool
loads asked (Err fault) = false
loads asked (Ok r) = obeys (unwrap_or asked r.allowed) r.facts.entries

-- what is told of a fault: it is one of a reading's, and has a reason at least
abbrev pub reading_fault : Fault → Option ReportFault
reading_fault f = report_fault f.fault

abbrev pub HasReasons : Fault → Type 0
HasReasons f = 0 < length f.reasons.items

-- these are the faults, in their order, each with its reasons
pub record AreFaults (faults : List ReportFault) (told : List Fault) : Type 0 where
  pub are : map reading_fault told ≡ map (λ fault. Some fault) faults
  pub reasons : AllByRecursion HasReasons told

-- these faults are told after those before
abbrev pub AddsFaults : List ReportFault → List Fault → List Fault → Type 0
AddsFaults faults before after =
    (earlier : List ReportFault) → AreFaults earlier before → AreFaults (earlier ++ faults) after

-- one is told after those before
abbrev pub TellsFault : Option ReportFault → List Fault → List Fault → Type 0
TellsFault None before after = ⊥
TellsFault (Some fault) before after = AddsFaults (fault ∷ []) before after

-- all that an inspection tells of these bytes by a numeric table, and by an allowed value where one is asked for
pub record IsInspection (table : Table) (asked : Option Allowed) (bytes : List ℕ) (i : Inspection) : Type 0 where
  pub facts : i.facts ≡ length (members_in bytes)
  pub faults : AreFaults (faults_in table bytes) i.faults.items
  pub cells : AreCells (unwrap_or asked (allowed_in bytes)) (facts_in table bytes) i.cells.items
  pub loads : i.would_load_as_asked ≡ loads asked (read_report_of table bytes)

-- what is told of a value: whether it would be loaded as asked is told by its faults and cells
pub record TellsOf (table : Table) (asked : Option Allowed) (d : Data) (i : Inspection) : Type 0 where
  pub facts : i.facts ≡ length (fact_members d)
  pub faults : AreFaults (report_faults table d) i.faults.items
  pub cells : AreCells (unwrap_or asked (allowed_known d)) (facts_read (names_known table d) (fact_members d))
      i.cells.items
  pub loads : i.would_load_as_asked ≡ ((length i.faults.items == 0) && are_allowed i.cells.items)
