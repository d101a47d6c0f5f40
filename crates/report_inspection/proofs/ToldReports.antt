-- What is told of a report, out of what is told of its parts.
use Rattle.std.proofs.Common.{◌≡◌, ◌∙◌, ap, sym, subst, refl, ◌==◌, ◌&&◌, List, [], ◌++◌, length, Option, unwrap_or, codes}
use Rattle.std.proofs.lemmas.List.{append_assoc}
use Rattle.std.specs.Option.{option_map_or}
use Rattle.serde_json.specs.Data.{Data}
use Rattle.serde_json.specs.Find.{get}
use Rattle.filing_model.specs.Oim.Facts.{Names, Table}
use Rattle.filing_model.specs.Reading.ReadReport.{ReportFault}
use Rattle.filing_model.specs.declared.duplicates.Allowed.{Allowed}
use Rattle.oim_report.specs.Parts.{facts_view}
use Rattle.oim_report.specs.Readings.{document_info_at}
use Rattle.report_inspection.specs.Cells.{AreCells, are_allowed}
use Rattle.report_inspection.specs.EachFault.{fact_faults, fact_members, facts_read, fault_in, info_faults, info_in, names_known, report_faults, shape_fault}
use Rattle.report_inspection.specs.Found.{TakesFacts}
use Rattle.report_inspection.specs.Heads.{IsHead}
use Rattle.report_inspection.specs.Inspections.{AreFaults, TellsOf}
use Rattle.report_inspection.specs.declared.facts.Found.{Found}
use Rattle.report_inspection.specs.declared.info.Head.{Head}
use Rattle.report_inspection.specs.declared.inspection.Inspection.{Inspection}

pub tells : (table : Table) (asked : Option Allowed) (d : Data) (head : Head) (names : Option Names) (known asked_or_known : Allowed)
    (before after : Found) (i : Inspection)
    → IsHead table (get (codes "documentInfo") d) head → names ≡ head.names → known ≡ head.allowed → before.faults ≡ head.faults
    → before.facts.items ≡ [] → TakesFacts names (get (codes "facts") d) before after → i.facts ≡ length (fact_members d)
    → i.faults ≡ after.faults → asked_or_known ≡ unwrap_or asked known → AreCells asked_or_known (facts_view after.facts.items) i.cells.items
    → i.would_load_as_asked ≡ ((length i.faults.items == 0) && are_allowed i.cells.items) → TellsOf table asked d i
tells table asked d head names known a before after i is names_are known_is same none takes count faults a_is cells loads = record {
  facts = count;
  faults = subst (λ v. AreFaults (report_faults table d) v.items) (sym faults) all_faults;
  cells =
      subst (λ a. AreCells a (facts_read (names_known table d) (fact_members d)) i.cells.items)
      (a_is ∙ ap (unwrap_or asked) (known_is ∙ is.allowed))
      (subst (λ es. AreCells a es i.cells.items)
      (takes.taken
      ∙ ap (λ xs. facts_view xs ++ facts_read names (fact_members d)) none
      ∙ ap (λ ns. facts_read ns (fact_members d)) (names_are ∙ is.names)) cells);
  loads = loads;
}
  where
    info : List ReportFault
    info = fault_in (document_info_at (get (codes "documentInfo") d))

    declared : List ReportFault
    declared = option_map_or (info_faults table) (info_in d) []

    of_facts : Option Names → List ReportFault
    of_facts ns = shape_fault (get (codes "facts") d) ++ fact_faults ns (fact_members d)

    told : AreFaults ((info ++ declared) ++ of_facts names) after.faults.items
    told = takes.faults (info ++ declared) (subst (λ v. AreFaults (info ++ declared) v.items) (sym same) is.faults)

    all_faults : AreFaults (report_faults table d) after.faults.items
    all_faults =
        subst (λ fs. AreFaults fs after.faults.items)
        (append_assoc info declared (of_facts names) ∙ ap (λ ns. info ++ (declared ++ of_facts ns)) (names_are ∙ is.names)) told
