use Rattle.std.proofs.Common.{subst, IfSome, Ok}
use Rattle.script_format.specs.LineView.{asking_view}
use Rattle.script_format.specs.AskedStep.{IsAsked}
use Rattle.script_format.specs.Script.{call_read}
use Rattle.script_format.proofs.LineOutcomes.{asked_step}
use Rattle.script_format.proofs.line_outcome.asking_due.Goals as goal

pub returns : goal.returns
returns g c =
    let reading = call_read (asking_view g.V.JsonArray.part_seen c.args.asking.now) in
    asked_step c.args.session.now c.in-Some.step reading c.in_ok-outcome.outcome
    (subst (λ o. IfSome o (λ s. IsAsked (Ok s) reading)) c.in-Some.is c.in_ok-step.ensures.step) c.in_ok-outcome.ensures
