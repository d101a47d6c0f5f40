use Rattle.std.proofs.Common.{◌≡◌, drop}
use Rattle.report_inspection.specs.Cells.{are_allowed}
use Rattle.report_inspection.proofs.cells.are_allowed.Given as goal

-- those left decide
abbrev pub invariant-loop-cell : goal.invariant-loop-cell
invariant-loop-cell l = are_allowed l.cells ≡ are_allowed (drop l.cell-index l.cells)
