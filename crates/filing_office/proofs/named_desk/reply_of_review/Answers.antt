use Rattle.std.proofs.Common.{◌∙◌, ap, sym, option_map}
use Rattle.filing_step.specs.Steps.{call_of, reply_of, step_of}
use Rattle.filing_office.proofs.Learning.{reply_of_review_call, reply_so}
use Rattle.filing_office.proofs.named_desk.reply_of_review.Goals as goal

pub returns-in-Some : goal.returns-in-Some
returns-in-Some c =
    let call = c.in-Some.call in
    reply_so reply_of c.call.result _ _ c.call.ensures
    (sym (reply_of_review_call c.args.review.now (step_of c.args.step) (call_of call)
    (ap (λ o. option_map call_of o) (sym c.in-Some.is) ∙ c.into_call.ensures)))
