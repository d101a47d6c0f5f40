use Rattle.std.proofs.Common.{sym, subst, refl}
use Rattle.oim_report.specs.Parts.{fact_view, facts_view}
use Rattle.report_inspection.specs.Runs.{NoneFalls, dims_in}
use Rattle.report_inspection.proofs.CellRuns.{Walked, cells_of_sorted, none_left, some_run, walk_begins, walk_ends, walk_steps}
use Rattle.report_inspection.proofs.cells.cells_in.Goals as goal

pub loop-left-init : goal.loop-left-init
loop-left-init c =
    subst (Walked c.args.allowed (facts_view c.deref-left.result.now) (facts_view c.deref-left.result.now)) (sym c.new-cells.ensures.items)
    (walk_begins c.args.allowed (facts_view c.deref-left.result.now)
    (subst (λ xs. NoneFalls (facts_view xs)) (sym c.deref-left.ensures.value) c.in_ok-facts.ensures.rise))

pub push_run-requires : goal.push_run-requires
push_run-requires c = c.split_run.ensures.run.front

pub loop-left-preserved : goal.loop-left-preserved
loop-left-preserved c =
    walk_steps c.args.allowed _ _ (facts_view c.split_run.result.0.now) (facts_view c.split_run.result.1.now) (dims_in (fact_view c.first-item.result))
    c.loop-left.cells.items c.push_run.new.cells.items c.loop-left.invariant c.split_run.ensures.run
    (some_run (dims_in (fact_view c.first-item.result)) c.loop-left.left.now c.first-item.result c.split_run.result.0.now c.in-len1-up.len_at_least
    c.first-item.is refl c.split_run.ensures.len)
    c.in_ok-push_run.ensures

pub returns : goal.returns
returns c =
    cells_of_sorted c.args.allowed (facts_view c.args.facts.items) (facts_view c.in_ok-facts.facts.items) c.loop-left.cells.items c.in_ok-facts.ensures
    (walk_ends c.args.allowed _ (facts_view c.loop-left.left.now) c.loop-left.cells.items (none_left c.loop-left.left.now c.in_default.len_below)
    (subst (λ xs. Walked c.args.allowed (facts_view xs) (facts_view c.loop-left.left.now) c.loop-left.cells.items) c.deref-left.ensures.value
    c.loop-left.invariant))
