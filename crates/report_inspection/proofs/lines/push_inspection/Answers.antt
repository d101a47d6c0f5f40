use Rattle.std.proofs.Common.{◌∙◌, ◌++◌, ap, string_bytes}
use Rattle.std.specs.List.{flat_map}
use Rattle.report_inspection.specs.Lines.{cell_line, fault_lines, summary_line, warning_line}
use Rattle.report_inspection.proofs.WrittenLines.{four_pushed}
use Rattle.report_inspection.proofs.lines.push_inspection.Goals as goal

pub returns : goal.returns
returns c =
    let file = c.args.file.now in
    four_pushed (string_bytes c.args.out.now) (string_bytes c.push_faults.new.out) (string_bytes c.push_cells.new.out)
    (string_bytes c.push_warnings.new.out) (string_bytes c.push_summary.new.out) (flat_map (fault_lines file) c.args.inspection.now.faults.items)
    (flat_map (cell_line file) c.args.inspection.now.cells.items) (flat_map (warning_line file) c.args.inspection.now.warnings.items)
    (summary_line file c.args.inspection.now)
    (c.in_ok-push_faults.ensures ∙ ap (λ xs. string_bytes c.args.out.now ++ flat_map (fault_lines file) xs) c.deref.ensures.value)
    (c.in_ok-push_cells.ensures ∙ ap (λ xs. string_bytes c.push_faults.new.out ++ flat_map (cell_line file) xs) c.deref-2.ensures.value)
    (c.in_ok-push_warnings.ensures ∙ ap (λ xs. string_bytes c.push_cells.new.out ++ flat_map (warning_line file) xs) c.deref-3.ensures.value)
    c.in_ok-push_summary.ensures
