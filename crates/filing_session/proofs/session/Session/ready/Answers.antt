use Rattle.std.proofs.Common.{◌∙◌, ap}
use Rattle.std.proofs.lemmas.Result.{IfOk-weaker}
use Rattle.filing_model.specs.Sessions.Repository.{Repository}
use Rattle.filing_model.specs.Sessions.Changes.{Change}
use Rattle.filing_step.specs.Steps.{call_of}
use Rattle.filing_session.specs.Effects.{effect_of, effect_on}
use Rattle.filing_session.specs.OpenSession.{OpenSession}
use Rattle.filing_session.specs.declared.session.Work.{Work}
use Rattle.filing_session.proofs.session.Session.ready.Goals as goal

pub returns-clause-effect : goal.returns-clause-effect
returns-clause-effect c =
    let laid = ap (λ (s : Repository × Change). effect_of c.self.inside.kind (call_of c.args.call) s.0 s.1) c.apply_pending_for.ensures in
    let of_work = ap (λ (w : Work). effect_of c.self.inside.kind (call_of c.args.call) w.staging.0 w.staging.1) c.deref_mut-work.ensures.value in
    let of_state = ap (λ (s : OpenSession). effect_on (call_of c.args.call) s.state) c.self.view_is in
    IfOk-weaker c.effect.result _ _ (λ r is. is ∙ laid ∙ of_work ∙ of_state) c.effect.ensures
