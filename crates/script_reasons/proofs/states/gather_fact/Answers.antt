use Rattle.std.proofs.Common.{◌≡◌, Some, rules}
use Rattle.serde_json.specs.View.{view}
use Rattle.script_format.specs.ScriptLines as model
use Rattle.script_format.specs.LineView.{line_view}
use Rattle.script_reasons.specs.ToldFacts.{line_has_fact}
use Rattle.script_reasons.proofs.KeptFacts.{on_ok, is_its_own}
use Rattle.script_reasons.proofs.states.gather_fact.Goals as goal

-- the fact of which it is told is the one that is added
pub returns-in_ok-faults_of_addition-in-Add : goal.returns-in_ok-faults_of_addition-in-Add
returns-in_ok-faults_of_addition-in-Add c =
    let e : line_view view c.args.line.now ≡
    model.Ask c.in-Ask.session.now (model.Add c.in-Add.report.now c.in-Add.id.now (view c.in-Add.fact.now)) = search rules in
    on_ok c.add-in-Add.result
    (λ kept. kept (λ id. line_has_fact id (Some (line_view view c.args.line.now))) (is_its_own c.in-Add.id.now _ _ _ _ e))
    c.add-in-Add.ensures
