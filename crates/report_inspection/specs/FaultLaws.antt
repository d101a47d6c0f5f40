-- All faults of a report, compared with a reading, which stops at the first. The project's own.
use Rattle.std.specs.Prelude.{◌≡◌, ℕ, Bool, nat_lt, List, [], ◌∷◌, length, Option, Result, Ok, Err}
use Rattle.serde_json.specs.Data.{Data}
use Rattle.filing_model.specs.Oim.Facts.{Names, Table}
use Rattle.filing_model.specs.Oim.Reports.{Report}
use Rattle.filing_model.specs.Reading.ReadReport.{ReportFault, read_report_of}
use Rattle.script_reasons.specs.ToldFacts.{is_refused}
use Rattle.report_inspection.specs.EachFault.{allowed_in, facts_in, faults_in, fault_in, fact_judged}

-- there is none where the text is read as a report, whose facts and declared value are those that are told;
-- else a reading is told the first
abbrev pub BeginWith : Table → List ℕ → Result Report ReportFault → Type 0
BeginWith table bytes (Ok r) =
    (faults_in table bytes ≡ []) × (facts_in table bytes ≡ r.facts.entries) × (allowed_in bytes ≡ r.allowed)
BeginWith table bytes (Err fault) = (later : List ReportFault) × (faults_in table bytes ≡ fault ∷ later)

abbrev pub FirstFaultIsTheReadings : Type 0
FirstFaultIsTheReadings = (table : Table) (bytes : List ℕ) → BeginWith table bytes (read_report_of table bytes)

-- a fact has a fault exactly where it alone is refused
abbrev pub FactsHaveFaultsWhereRefused : Type 0
FactsHaveFaultsWhereRefused = (names : Option Names) (fact : Data)
    → nat_lt 0 (length (fault_in (fact_judged names fact))) ≡ is_refused names fact
