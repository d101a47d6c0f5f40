use Rattle.std.proofs.Common.{◌≡◌, ◌∙◌, ◌++◌, ◌∷◌, [], List, ap, sym, subst, option_map}
use Rattle.filing_model.specs.Sessions.Repository.{Repository}
use Rattle.filing_model.specs.Histories.Versions.{IsChain}
use Rattle.filing_version.specs.StampedReports.{repository_in}
use Rattle.filing_office.proofs.Publishing.{chain_with, publishes}
use Rattle.filing_office.proofs.shared.publish_and_settle.Goals as goal

pub publish_next-requires : goal.publish_next-requires
publish_next-requires g c v is =
    subst (λ (vs : List Repository). IsChain (vs ++ repository_in v ∷ [])) (sym c.requires.list)
    (chain_with c.args.core.now.history c.args.prepared c.requires.follows v is)

pub returns-clause-list : goal.returns-clause-list
returns-clause-list g c =
    publishes c.args.core.now.history c.settle-reply.new.self.history c.args.prepared c.requires.follows c.settle-reply.ensures.entered
    c.args.publisher.now c.publish_next.new.publisher c.requires.list c.in-Ok.ensures.published

pub returns-clause-settled : goal.returns-clause-settled
returns-clause-settled g c = record {
  entered = c.settle-reply.ensures.entered;
  replied = c.settle-reply.ensures.reply;
  under = c.last_session.ensures c.args.core.now.history c.args.prepared.entry c.settle-reply.ensures.entered;
  receipt_is = c.in-Ok.ensures.told ∙ ap (λ (vs : List Repository). option_map (λ _. vs) c.args.prepared.next) (returns-clause-list g c);
}
