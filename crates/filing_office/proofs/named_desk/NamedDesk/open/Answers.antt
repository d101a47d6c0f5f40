use Rattle.std.proofs.Common.{◌≡◌, ◌∙◌, ap, sym, None, is_some}
use Rattle.std.specs.Prelude.{string_bytes}
use Rattle.filing_model.specs.Common.TextMap.{get}
use Rattle.filing_office.specs.Runs.{NamedDeskState, outcome_of}
use Rattle.filing_office.proofs.Learning.{opens_review, none_of}
use Rattle.filing_office.proofs.named_desk.NamedDesk.open.Goals as goal

pub returns-in-Review-clause-opens : goal.returns-in-Review-clause-opens
returns-in-Review-clause-opens g c =
    let name = string_bytes c.args.name in
    let free : get c.args.self.now.state.names name ≡ None =
    sym (ap (λ (u : NamedDeskState). get u.state.names name) c.self.view_is)
    ∙ sym (ap (λ t. get c.self.inside.names t) c.deref.ensures)
    ∙ none_of _ c.get.result _ c.get.ensures (sym c.is_some.ensures ∙ c.if-is_some.false) in
    opens_review c.args.self.now.state c.open_review.new.self.state c.args.told.now name c.args.kind (outcome_of c.open_review.result) free c.in-Review.is
    (sym (ap (λ (u : NamedDeskState). is_some u.state.seen) c.self.view_is) ∙ c.if-is_none.ensures) c.open_review.ensures.opens
