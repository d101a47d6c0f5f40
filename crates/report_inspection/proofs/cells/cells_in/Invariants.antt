use Rattle.std.proofs.Common.{length}
use Rattle.oim_report.specs.Parts.{facts_view}
use Rattle.report_inspection.proofs.CellRuns.{Walked}
use Rattle.report_inspection.proofs.cells.cells_in.Given as goal

-- the cells of what was walked over are told
abbrev pub invariant-loop-left : goal.invariant-loop-left
invariant-loop-left l = Walked l.allowed (facts_view l.initial.left) (facts_view l.left) l.cells.items

abbrev pub decreases-loop-left : goal.decreases-loop-left
decreases-loop-left l = length l.left
