use Rattle.std.proofs.Common.{◌≡◌, ◌∙◌, ◌++◌, ◌∷◌, [], List, length, ap, sym, subst}
use Rattle.filing_model.specs.Sessions.Repository.{Repository}
use Rattle.filing_model.specs.Histories.Versions.{IsChain}
use Rattle.filing_version.specs.StampedReports.{repository_in}
use Rattle.filing_publish.specs.Lists.{Listed}
use Rattle.filing_publish.proofs.Adding.{adds}
use Rattle.filing_publish.proofs.Chains.{added}
use Rattle.filing_publish.proofs.publisher.Publisher.add.Goals as goal

pub compare_exchange-found-requires : goal.compare_exchange-found-requires
compare_exchange-found-requires g c =
    let head = c.self.invariant.0 in
    let offer = c.plain-offer.ensures in
    let pen = c.no_pen-pen.ensures in
    let next = repository_in c.args.version.now in
    let of_book : c.again-seen.result.book ≡ g.J.Naming.book =
    ap (λ s. s.book) c.again-seen.ensures ∙ (ap (λ (e : Listed). e.book) c.behind-self.view_is ∙ c.edition.ensures.1) in
    let log : c.again-seen.result.log ≡ c.args.self.now =
    ap (λ s. s.log) c.again-seen.ensures ∙ (ap (λ (e : Listed). e.versions) c.behind-self.view_is ∙ c.edition.ensures.0) in
    let may : IsChain (c.again-seen.result.log ++ next ∷ []) = subst (λ (vs : List Repository). IsChain (vs ++ next ∷ [])) (sym log) c.requires in
    let long : length c.again-seen.result.log ≡ c.number-length.result = added c.again-seen.result.log next may ∙ sym c.number-length.ensures in (
      ap (λ w. w.tracked) head,
      of_book ∙ sym (ap (λ w. w.book) head),
      pen.0 ∙ (of_book ∙ sym (ap (λ w. w.book) head)),
      offer.0,
      rw (ap (λ w. w.key) head, pen.1, offer.1, offer.3) (adds c.again-seen.result.log next c.number-length.result long may),
    )
