use Rattle.std.proofs.Common.{◌∙◌, ap}
use Rattle.filing_step.specs.Steps.{call_of}
use Rattle.filing_session.specs.Effects.{Effect, with_effect}
use Rattle.filing_session.proofs.CallEffects.{each_effect_is_its_call}
use Rattle.filing_session.proofs.session.Session.call.Goals as goal

pub returns : goal.returns
returns c =
    let effect = c.in_ok-ready.ensures.effect in record {
      told_so = c.take.ensures.reply ∙ ap (λ (e : Effect). e.reply) effect;
      left_so =
          c.take.ensures.state
          ∙ (λ i. with_effect (effect i) (c.ready.ensures.state i))
          ∙ each_effect_is_its_call (call_of c.args.call) c.args.self.now.state;
    }
