use Rattle.std.proofs.Common.{◌∙◌, ap}
use Rattle.filing_model.specs.Sessions.Repository.{Repository}
use Rattle.filing_model.specs.Sessions.Changes.{Change}
use Rattle.filing_model.specs.Sessions.Sessions.{answer}
use Rattle.filing_model.specs.declared.kind.Kind.TheVariants.{Review}
use Rattle.filing_step.specs.Steps.{call_of}
use Rattle.filing_version.specs.StampedReports.{repository_in}
use Rattle.filing_session.specs.Effects.{Effect}
use Rattle.filing_session.proofs.reviewed.reply_at.Goals as goal

pub returns : goal.returns
returns c =
    let at_version = ap (λ (s : Repository × Change). s.0) c.new-staging.ensures ∙ ap repository_in c.in_ok-try_clone.ensures in
    c.into_reply.ensures
    ∙ ap (λ (e : Effect). e.reply) c.in_ok-ready.ensures
    ∙ ap (λ (r : Repository). (answer Review (call_of c.args.call) r).0) at_version
