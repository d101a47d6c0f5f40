use Rattle.std.proofs.Common.{◌≡◌, ◌∙◌, ap, sym, subst}
use Rattle.filing_model.specs.Histories.History.{History}
use Rattle.filing_model.specs.Histories.Versions.{versions}
use Rattle.filing_step.specs.Steps.{step_of}
use Rattle.filing_core.specs.Prepared.{MayFollow}
use Rattle.filing_office.specs.Answers.{IsTold}
use Rattle.filing_office.proofs.Publishing.{tells}
use Rattle.filing_office.proofs.shared.Shared.publish.Goals as goal

pub publish_and_settle-requires-clause-list : goal.publish_and_settle-requires-clause-list
publish_and_settle-requires-clause-list g c = c.self.invariant ∙ ap versions (sym c.in_ok-prepared.ensures.same)

pub publish_and_settle-requires-clause-follows : goal.publish_and_settle-requires-clause-follows
publish_and_settle-requires-clause-follows g c =
    subst (λ (h : History). MayFollow h c.in_ok-prepared.prepared) (sym c.in_ok-prepared.ensures.same) c.in_ok-prepared.ensures.answers.follows

pub returns : goal.returns
returns g c =
    let h = c.self.inside.core.history in
    let new = c.publish_and_settle.new.core.history in
    let a = c.in_ok-publish_and_settle.field-0 in
    subst (λ (old : History). IsTold old new c.args.session (step_of c.args.step) a) c.self.view_is
    (tells h c.prepare.new.self.history new c.args.session (step_of c.args.step) c.in_ok-prepared.prepared c.in_ok-prepared.ensures.answers c.in_ok-prepared.ensures.same
    a c.in_ok-publish_and_settle.ensures.settled)
