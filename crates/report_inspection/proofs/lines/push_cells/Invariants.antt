use Rattle.std.proofs.Common.{◌≡◌, ◌++◌, string_bytes, drop}
use Rattle.std.specs.List.{flat_map}
use Rattle.report_inspection.specs.Lines.{cell_line}
use Rattle.report_inspection.proofs.lines.push_cells.Given as goal

-- what is written and what is left to write are the whole
abbrev pub invariant-loop-cell : goal.invariant-loop-cell
invariant-loop-cell l =
    string_bytes l.out ++ flat_map (cell_line l.file) (drop l.cell-index l.cells) ≡ string_bytes l.initial.out ++ flat_map (cell_line l.file) l.cells
