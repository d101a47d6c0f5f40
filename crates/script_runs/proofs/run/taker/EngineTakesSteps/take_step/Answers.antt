use Rattle.std.proofs.Common.{string_bytes}
use Rattle.std.proofs.lemmas.Result.{IfOk-weaker}
use Rattle.filing_step.specs.Steps.{step_of}
use Rattle.filing_core.specs.Engines.{IsEngineOf}
use Rattle.script_runs.proofs.ToldSteps.{told_of}
use Rattle.script_runs.proofs.run.taker.EngineTakesSteps.take_step.Goals as goal

pub returns-clause-answers : goal.returns-clause-answers
returns-clause-answers c = λ h taken.
    IfOk-weaker c.answer_of.result _ _
    (λ answer is. told_of (λ x. IsEngineOf x c.step_of_engine-outcome.new.engine) h c.args.session (step_of c.args.step) c.step_of_engine-outcome.result
    (string_bytes answer.text) (c.step_of_engine-outcome.ensures h taken) is)
    c.answer_of.ensures
