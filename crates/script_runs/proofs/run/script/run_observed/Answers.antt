use Rattle.std.proofs.Common.{◌≡◌, ◌∙◌, rules, subst, sym}
use Rattle.std.specs.Arc.{arc_value}
use Rattle.script_runs.specs.Resumed.{GoesOn}
use Rattle.script_runs.specs.Observed.{RepliesSeen}
use Rattle.script_runs.specs.StepsTaken.{AnswersLine}
use Rattle.script_runs.proofs.ObservedRuns.{shown_all}
use Rattle.script_runs.proofs.RunsWithin.{runs_within}
use Rattle.script_runs.proofs.Scripts.{resumed_alike, script_goes, stopped_at_once}
use Rattle.script_runs.proofs.run.script.run_observed.Goals as goal

pub returns-in_default-clause-script : goal.returns-in_default-clause-script
returns-in_default-clause-script g c = λ h taken. stopped_at_once g.R.Source.state c.args.reads (arc_value c.args.table.now) h _ _

pub returns-clause-script : goal.returns-clause-script
returns-clause-script g c = λ h taken.
    let has = g.T.TakesSteps.has_taken in
    let machine = c.before_lines-machine.result in
    let is = c.before_lines-machine.ensures in
    let table : arc_value c.in-Ok.table ≡ arc_value c.args.table.now = search rules in
    let runs = runs_within (λ o. o.machine) (RepliesSeen (AnswersLine has) g.O.Observes.sees) (AnswersLine has)
    (λ m n line text is. is.0) g.R.Source.state c.args.reads c.run-ended.result
    _ c.run-ended.new.machine _ _ _ _ c.run-ended.ensures.runs in
    let goes = script_goes has (arc_value c.args.table.now) h machine c.run-ended.new.machine.machine
    (resumed_alike machine (arc_value c.args.table.now) h (is.table ∙ table) is.no_names) (subst (λ t. has t h) (sym is.taker) taken)
    g.R.Source.state c.args.reads _ _ _ _ c.run-ended.result runs in
    subst (λ t. GoesOn g.R.Source.state c.args.reads (arc_value c.args.table.now) h has t c.run-ended.result c.args.input.now c.run-ended.new.source
    (g.W.Sink.state c.args.output.now) (g.W.Sink.state c.run-ended.new.sink)) (sym c.into_taker.ensures) goes

pub returns-clause-shown : goal.returns-clause-shown
returns-clause-shown g c =
    shown_all g.O.Observes.sees g.R.Source.state c.args.reads _ c.run-ended.new.machine _ _ _ _
    (AnswersLine g.T.TakesSteps.has_taken) c.run-ended.result c.run-ended.ensures.runs
