-- Whether a report would be loaded, by what is told of it.
use Rattle.std.proofs.Common.{◌≡◌, ◌∙◌, ap, sym, subst, ℕ, ◌≤◌, Bool, true, false, cond, ◌&&◌, ◌==◌, List, []}
use Rattle.std.proofs.Common.{◌∷◌, length, Option, None, Some, unwrap_or, Result, Ok, Err}
use Rattle.std.proofs.Math.Dec.{eqb-suc-zero}
use Rattle.std.proofs.lemmas.List.{length-map}
use Rattle.std.specs.Prelude.{IfOk}
use Rattle.std.specs.Option.{option_map_or, ok_or}
use Rattle.filing_model.specs.Common.Try.{◌>>=◌}
use Rattle.serde_json.specs.Data.{Data, depth}
use Rattle.serde_json.specs.Read.{max_depth, read}
use Rattle.serde_json.proofs.Nesting.{depth-read}
use Rattle.filing_model.specs.Oim.Duplicates.{obeys}
use Rattle.filing_model.specs.Oim.Facts.{Table}
use Rattle.filing_model.specs.Reading.JsonText.{json_of}
use Rattle.filing_model.specs.Oim.Reports.{Report}
use Rattle.filing_model.specs.Reading.ReadReport.{ReportFault, NotJson, read_report_of, report_of}
use Rattle.filing_model.specs.declared.duplicates.Allowed.{Allowed}
use Rattle.filing_model.specs.declared.duplicates.Allowed.TheVariants.{All}
use Rattle.report_inspection.specs.Cells.{AreCells, ToldCell, are_allowed}
use Rattle.report_inspection.specs.EachFault.{allowed_in, allowed_known, data_in, fact_members, facts_in, facts_read, faults_in, names_known, report_faults}
use Rattle.report_inspection.specs.FaultLaws.{BeginWith}
use Rattle.report_inspection.specs.Inspections.{AreFaults, IsInspection, TellsOf, loads, reading_fault}
use Rattle.report_inspection.specs.declared.fault.Fault.{Fault}
use Rattle.report_inspection.specs.declared.inspection.Inspection.{Inspection}
use Rattle.report_inspection.proofs.AllowedCells.{obeys_where_each_stands}
use Rattle.report_inspection.proofs.CellRuns.{no_cells}
use Rattle.report_inspection.proofs.FirstFaults.{first_fault_is_the_readings}

as_many : (faults : List ReportFault) (told : List Fault) → AreFaults faults told → length told ≡ length faults
as_many faults told h = sym (length-map told reading_fault) ∙ ap length h.are ∙ length-map faults (λ fault. Some fault)

loads_by : (table : Table) (asked : Option Allowed) (bytes : List ℕ) (told : List Fault) (cells : List ToldCell) (r : Result Report ReportFault)
    → BeginWith table bytes r → AreFaults (faults_in table bytes) told
    → AreCells (unwrap_or asked (allowed_in bytes)) (facts_in table bytes) cells
    → ((length told == 0) && are_allowed cells) ≡ loads asked r
loads_by table asked bytes told cells (Ok r) (none, facts, allowed) faults h =
    (λ i. (as_many (faults_in table bytes) told faults ∙ ap length none) i == 0 && are_allowed cells)
    ∙ obeys_where_each_stands (unwrap_or asked (allowed_in bytes)) (facts_in table bytes) cells h
    ∙ (λ i. obeys (unwrap_or asked (allowed i)) (facts i))
loads_by table asked bytes told cells (Err fault) (later, are) faults h =
    (λ i. (as_many (faults_in table bytes) told faults ∙ ap length are) i == 0 && are_allowed cells)
    ∙ ap (λ b. b && are_allowed cells) (eqb-suc-zero (length later))

pub inspected : (table : Table) (asked : Option Allowed) (bytes : List ℕ) (d : Data) (i : Inspection) → data_in bytes ≡ Some d → TellsOf table asked d i
    → IsInspection table asked bytes i
inspected table asked bytes d i is h =
    let faults : AreFaults (faults_in table bytes) i.faults.items =
    subst (λ o. AreFaults (option_map_or (report_faults table) o (NotJson ∷ [])) i.faults.items) (sym is) h.faults in
    let cells : AreCells (unwrap_or asked (allowed_in bytes)) (facts_in table bytes) i.cells.items =
    subst (λ o. AreCells (unwrap_or asked (option_map_or allowed_known o All))
    (option_map_or (λ d. facts_read (names_known table d) (fact_members d)) o []) i.cells.items) (sym is) h.cells in
    record {
      facts = h.facts ∙ sym (ap (λ o. length (option_map_or fact_members o [])) is);
      faults = faults;
      cells = cells;
      loads =
          h.loads ∙ loads_by table asked bytes i.faults.items i.cells.items (read_report_of table bytes)
          (first_fault_is_the_readings table bytes) faults cells;
    }

-- what is told of bytes that are no JSON
pub not_json : (table : Table) (asked : Option Allowed) (bytes : List ℕ) (i : Inspection) → data_in bytes ≡ None
    → AreFaults (NotJson ∷ []) i.faults.items → i.facts ≡ 0 → i.cells.items ≡ [] → i.would_load_as_asked ≡ false → IsInspection table asked bytes i
not_json table asked bytes i is told facts cells loads_is = record {
  facts = facts ∙ sym (ap (λ o. length (option_map_or fact_members o [])) is);
  faults = subst (λ o. AreFaults (option_map_or (report_faults table) o (NotJson ∷ [])) i.faults.items) (sym is) told;
  cells =
      subst (λ o. AreCells (unwrap_or asked (option_map_or allowed_known o All))
      (option_map_or (λ d. facts_read (names_known table d) (fact_members d)) o []) i.cells.items) (sym is)
      (subst (AreCells (unwrap_or asked All) []) (sym cells) (no_cells (unwrap_or asked All)));
  loads = loads_is ∙ sym (ap (λ o. loads asked (ok_or o NotJson >>= report_of table)) is);
}

pub tells_no_json : {E : Type 0} (table : Table) (asked : Option Allowed) (bytes : List ℕ) (r : Result Inspection E) → data_in bytes ≡ None
    → IfOk r (λ i. AreFaults (NotJson ∷ []) i.faults.items) → IfOk r (λ i. i.facts ≡ 0) → IfOk r (λ i. i.cells.items ≡ [])
    → IfOk r (λ i. i.would_load_as_asked ≡ false) → IfOk r (IsInspection table asked bytes)
tells_no_json table asked bytes (Ok i) is told facts cells loads_is = not_json table asked bytes i is told facts cells loads_is
tells_no_json table asked bytes (Err e) is told facts cells loads_is = tt

-- ---- what is read nests no deeper than a reader goes

json_shallow_at : (b : Bool) (text : List ℕ) (d : Data) → cond b (read text) None ≡ Some d → depth d ≤ max_depth
json_shallow_at true text d is = depth-read text d is
json_shallow_at false text d is = absurd (cc)

pub json_shallow : (text : List ℕ) (d : Data) → json_of text ≡ Some d → depth d ≤ max_depth
unfolding json_of
json_shallow text d is = json_shallow_at _ text d is
