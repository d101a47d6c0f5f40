use Rattle.std.proofs.Common.{◌∙◌, ap, sym, subst, refl}
use Rattle.std.specs.Prelude.{string_bytes}
use Rattle.filing_model.specs.Common.TextMap.{insert}
use Rattle.filing_office.specs.Runs.{RunState, NamedDeskState, ReviewOpens}
use Rattle.filing_office.specs.declared.session_place.SessionPlace.TheVariants as place
use Rattle.filing_office.proofs.named_desk.NamedDesk.open_review.Goals as goal

pub returns-clause-opens : goal.returns-clause-opens
returns-clause-opens g c = λ seen had.
    let name = string_bytes c.args.name in
    let opened = c.in_ok-review.ensures.opened seen had in
    let last = c.in_ok-review.review in
    let t : RunState = record { tally = c.self.inside.desk; seen = c.self.inside.reviewer; names = c.insert.new.self } in
    let before = ap (λ (u : NamedDeskState). u.state) c.self.view_is ∙ opened.2 in
    subst (λ o. ReviewOpens c.args.self.now.state t c.args.told.now name seen o) (sym c.review_outcome.ensures) (
      record { told_so = refl; session = refl; receipt = refl },
      last,
      opened.0,
      opened.1,
      (λ i. record { tally = c.self.inside.desk; seen = c.self.inside.reviewer; names = c.in_ok-insert.ensures.ok i })
          ∙ ap (λ (u : RunState). record u { names = insert u.names name (place.Review last) }) before,
    )
