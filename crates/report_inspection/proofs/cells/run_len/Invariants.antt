use Rattle.std.proofs.Common.{◌≡◌, ◌+◌, length}
use Rattle.oim_report.specs.Parts.{fact_view, facts_view}
use Rattle.report_inspection.specs.Runs.{dims_in, run_length}
use Rattle.report_inspection.proofs.cells.run_len.Given as goal

-- those that were passed, and those that are left to pass, are all
abbrev pub invariant-loop-left : goal.invariant-loop-left
invariant-loop-left l =
    (l.len + run_length (dims_in (fact_view l.first)) (facts_view l.left)
    ≡ run_length (dims_in (fact_view l.first)) (facts_view l.facts)) × (l.len + length l.left ≡ length l.facts)

abbrev pub decreases-loop-left : goal.decreases-loop-left
decreases-loop-left l = length l.left
