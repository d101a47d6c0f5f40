use Rattle.std.proofs.Common.{◌≡◌, ◌+◌, ◌≤◌, drop}
use Rattle.report_inspection.specs.Lines.{count_disallowed}
use Rattle.report_inspection.proofs.lines.count_disallowed.Given as goal

-- those so far, and those left
abbrev pub invariant-loop-cell : goal.invariant-loop-cell
invariant-loop-cell l = (l.count + count_disallowed (drop l.cell-index l.cells) ≡ count_disallowed l.cells) × (l.count ≤ l.cell-index)
