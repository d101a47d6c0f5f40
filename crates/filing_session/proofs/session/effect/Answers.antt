use Rattle.std.proofs.Common.{◌∙◌, sym, true}
use Rattle.std.proofs.lemmas.Result.{IfOk-weaker}
use Rattle.filing_step.specs.Steps.{call_of}
use Rattle.filing_session.proofs.CallEffects.{effect_by_parts}
use Rattle.filing_session.proofs.session.effect.Goals as goal

pub returns-then-may_make : goal.returns-then-may_make
returns-then-may_make c =
    let parts = effect_by_parts c.args.kind (call_of c.args.call) c.args.staging.now.0 c.args.staging.now.1 true (sym c.if-may_make.true ∙ c.may_make.ensures) in
    IfOk-weaker c.prepare_call.result _ _ (λ r is. is ∙ parts) c.prepare_call.ensures
