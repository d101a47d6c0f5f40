use Rattle.std.proofs.Common.{◌≡◌, ◌==◌, ◌&&◌, length, refl, arith}
use Rattle.std.specs.Arc.{arc_value}
use Rattle.oim_report.specs.Borrowed.{data_of}
use Rattle.report_inspection.specs.Cells.{are_allowed}
use Rattle.report_inspection.proofs.ToldReports.{tells}
use Rattle.report_inspection.proofs.inspection.inspect_value.Goals as goal
use Rattle.report_inspection.proofs.inspection.inspect_value.Goals.{then-is_empty, else-is_empty}

pub returns-clause-told : goal.returns-clause-told
returns-clause-told c =
    tells (arc_value c.args.table.now) c.args.asked (data_of c.args.value.now) c.in_ok-faults.field-0 c.in_ok-faults.field-0.names
    c.in_ok-faults.field-0.allowed
    c.unwrap_or.result record { facts = c.new.result; faults = c.in_ok-faults.field-0.faults } c.take_facts.new.found _
    c.in_ok-faults.ensures refl refl refl c.new.ensures.items c.in_ok-count.ensures.takes
    c.in_ok-count.ensures.count refl c.unwrap_or.ensures c.in_ok-cells.ensures loads
  where
    loads : c.if-is_empty.would_load_as_asked ≡ ((length c.take_facts.new.found.faults.items == 0) && are_allowed c.in_ok-cells.cells.items)
    loads = elim c.if-is_empty.branch [
      | then-is_empty w ↦ grind arith
      | else-is_empty w ↦ grind arith
    ]
