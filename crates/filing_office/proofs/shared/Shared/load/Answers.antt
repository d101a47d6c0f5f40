use Rattle.std.proofs.Common.{sym, subst, None}
use Rattle.std.specs.Prelude.{string_bytes}
use Rattle.filing_model.specs.Histories.History.{History, Load}
use Rattle.filing_core.specs.Prepared.{MayFollow}
use Rattle.filing_office.specs.Answers.{IsTold}
use Rattle.filing_office.proofs.Publishing.{tells}
use Rattle.filing_office.proofs.shared.Shared.load.Goals as goal

pub publish_and_settle-requires-clause-follows : goal.publish_and_settle-requires-clause-follows
publish_and_settle-requires-clause-follows g c =
    subst (λ (h : History). MayFollow h c.in_ok-prepared.prepared) (sym c.in_ok-prepared.ensures.same) (c.in_ok-prepared.ensures.prepared None).follows

pub returns : goal.returns
returns g c = λ session.
    let h = c.self.inside.core.history in
    let new = c.publish_and_settle.new.core.history in
    let step = Load (string_bytes c.args.name) c.args.report in
    let a = c.in_ok-publish_and_settle.field-0 in
    subst (λ (old : History). IsTold old new session step a) c.self.view_is
    (tells h c.prepare_load.new.self.history new session step c.in_ok-prepared.prepared (c.in_ok-prepared.ensures.prepared session) c.in_ok-prepared.ensures.same
    a c.in_ok-publish_and_settle.ensures.settled)
