use Rattle.std.proofs.Common.{◌≡◌, subst, IfOk}
use Rattle.filing_model.specs.Sessions.Repository.{Repository}
use Rattle.filing_model.specs.Sessions.Sessions.{answer}
use Rattle.filing_model.specs.declared.kind.Kind.TheVariants.{Review}
use Rattle.filing_step.specs.Steps.{call_of, reply_of}
use Rattle.filing_publish.proofs.review.Review.call.Goals as goal

pub returns : goal.returns
returns c =
    subst (λ (w : Repository). IfOk c.reply_at.result (λ r. reply_of r ≡ (answer Review (call_of c.args.call) w).0)) c.self.view_is c.reply_at.ensures
