use Rattle.std.proofs.Common.{◌∙◌, ap, sym, not}
use Rattle.oim_report.specs.Parts.{fact_view}
use Rattle.report_inspection.specs.Runs.{dims_in}
use Rattle.report_inspection.proofs.CellRuns.{run_goes, run_stops}
use Rattle.report_inspection.proofs.cells.run_len.Goals as goal

pub returns-then-not-is_of_run : goal.returns-then-not-is_of_run
returns-then-not-is_of_run c =
    run_stops (dims_in (fact_view c.args.first.now)) c.loop-left.left.now c.other-item.result c.loop-left.len _ _ c.in-len1-up.len_at_least
    c.other-item.is (sym c.is_of_run.ensures ∙ c.if-not-is_of_run.true) c.loop-left.invariant

pub loop-left-preserved : goal.loop-left-preserved
loop-left-preserved c =
    run_goes (dims_in (fact_view c.args.first.now)) c.loop-left.left.now c.other-item.result c.loop-left.len _ _ c.in-len1-up.len_at_least
    c.other-item.is (sym c.is_of_run.ensures ∙ c.if-not-is_of_run.false) c.loop-left.invariant
