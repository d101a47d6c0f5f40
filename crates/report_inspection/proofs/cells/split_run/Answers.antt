use Rattle.std.proofs.Common.{sym, subst, ◌≤◌, length}
use Rattle.oim_report.specs.Parts.{fact_view}
use Rattle.report_inspection.specs.Runs.{dims_in}
use Rattle.report_inspection.proofs.CellRuns.{run_parts, run_within}
use Rattle.report_inspection.proofs.cells.split_run.Goals as goal

pub split_at-requires : goal.split_at-requires
split_at-requires c = subst (λ n. n ≤ length c.args.facts.now) (sym c.run_len.ensures) (run_within (dims_in (fact_view c.args.first.now)) c.args.facts.now)

pub returns-clause-run : goal.returns-clause-run
returns-clause-run c =
    run_parts (dims_in (fact_view c.args.first.now)) c.args.facts.now c.split_at.result.0.now c.split_at.result.1.now c.run_len.result
    c.run_len.ensures c.split_at.ensures.front c.split_at.ensures.back
