use Rattle.std.proofs.Common.{◌∙◌, ap, subst, arith, List}
use mathlib.Core.List.{IsPrefix}
use Rattle.filing_model.specs.Sessions.Repository.{Repository}
use Rattle.filing_model.specs.Histories.Versions.{IsChain}
use Rattle.filing_publish.specs.Lists.{Listed, IsLonger}
use Rattle.filing_publish.proofs.Longer.{first_longer, second_longer, of_clone}
use Rattle.filing_publish.proofs.edition.Edition.longer_of.Goals as goal

pub returns-then-number-clause-longer : goal.returns-then-number-clause-longer
returns-then-number-clause-longer c =
    let both = c.learn.new.self.log in
    let mine : IsPrefix c.args.self.now.versions both =
    subst (λ (l : List Repository). IsPrefix l both) (ap (λ s. s.log) c.again-both.ensures ∙ ap (λ (e : Listed). e.versions) c.self.view_is)
    c.learn.ensures.2 in
    let theirs : IsPrefix c.args.other.now.versions both =
    subst (λ (l : List Repository). IsPrefix l both) (ap (λ (e : Listed). e.versions) c.other.view_is) c.learn.ensures.3 in
    of_clone (λ (e : Listed). IsLonger c.args.self.now.versions c.args.other.now.versions e.versions) c.share.result c.args.other.now c.share.ensures
    (second_longer _ _ both mine theirs (omega (arith, c.number.ensures.length, c.number-2.ensures.length, c.if-number.true)))

pub returns-clause-longer : goal.returns-clause-longer
returns-clause-longer c =
    let both = c.learn.new.self.log in
    let mine : IsPrefix c.args.self.now.versions both =
    subst (λ (l : List Repository). IsPrefix l both) (ap (λ s. s.log) c.again-both.ensures ∙ ap (λ (e : Listed). e.versions) c.self.view_is)
    c.learn.ensures.2 in
    let theirs : IsPrefix c.args.other.now.versions both =
    subst (λ (l : List Repository). IsPrefix l both) (ap (λ (e : Listed). e.versions) c.other.view_is) c.learn.ensures.3 in
    of_clone (λ (e : Listed). IsLonger c.args.self.now.versions c.args.other.now.versions e.versions) c.share-else-number.result c.args.self.now
    c.share-else-number.ensures
    (first_longer _ _ both mine theirs (omega (arith, c.number.ensures.length, c.number-2.ensures.length, c.if-number.false)))

pub returns-then-number-clause-chain : goal.returns-then-number-clause-chain
returns-then-number-clause-chain c =
    of_clone (λ (e : Listed). IsChain e.versions) c.share.result c.args.other.now c.share.ensures c.number-2.ensures.chain

pub returns-clause-chain : goal.returns-clause-chain
returns-clause-chain c =
    of_clone (λ (e : Listed). IsChain e.versions) c.share-else-number.result c.args.self.now c.share-else-number.ensures c.number.ensures.chain
