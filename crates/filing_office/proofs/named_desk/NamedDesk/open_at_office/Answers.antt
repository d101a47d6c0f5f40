use Rattle.std.proofs.Common.{◌≡◌, ◌∙◌, ap, sym, subst, None, is_some}
use Rattle.std.specs.Prelude.{string_bytes}
use Rattle.filing_model.specs.Common.TextMap.{get, insert, remove}
use Rattle.filing_office.specs.Tallies.{Tally, IsCounted}
use Rattle.filing_office.specs.Runs.{NamedDeskState}
use Rattle.filing_office.specs.declared.session_place.SessionPlace.TheVariants as place
use Rattle.filing_office.proofs.DeskNames.{freed_again, is_put, put_again}
use Rattle.filing_office.proofs.Learning.{some_of}
use Rattle.filing_office.proofs.named_desk.NamedDesk.open_at_office.Goals as goal

pub set_session-requires-clause-used : goal.set_session-requires-clause-used
set_session-requires-clause-used g c =
    let name = string_bytes c.args.name in
    let names = c.self.inside.names in
    ap (λ m. is_some (get m name)) (c.in_ok-insert.ensures.ok ∙ ap (λ t. insert names t (place.Office 0)) c.in_ok-clone.ensures.cases)
    ∙ ap is_some (is_put names name (place.Office 0))

pub returns-in-Ok-clause-opens : goal.returns-in-Ok-clause-opens
returns-in-Ok-clause-opens g c =
    let name = string_bytes c.args.name in
    let names = c.self.inside.names in
    let put : c.insert.new.self ≡ insert names name (place.Office 0) = c.in_ok-insert.ensures.ok ∙ ap (λ t. insert names t (place.Office 0)) c.in_ok-clone.ensures.cases in
    let number = some_of c.in-Ok.answer.session c.in-Ok.ensures.told.0 in
    let left = c.set_session.ensures number.0 number.1 in (
      number.0,
      number.1,
      c.in-Ok.ensures.told.1,
      record {
        counted =
            subst (λ (d : Tally). IsCounted d c.set_session.new.self.state.tally c.in-Ok.answer) (ap (λ (t : NamedDeskState). t.state.tally) c.self.view_is)
            (subst (λ (d : Tally). IsCounted c.self.inside.desk d c.in-Ok.answer) (sym (ap (λ (t : NamedDeskState). t.state.tally) left)) c.in-Ok.ensures.counted);
        seen = ap (λ (t : NamedDeskState). t.state.seen) left ∙ ap (λ (t : NamedDeskState). t.state.seen) c.self.view_is;
        names_are =
            ap (λ (t : NamedDeskState). t.state.names) left
            ∙ ap (λ m. insert m name (place.Office number.0)) put
            ∙ put_again names name (place.Office 0) (place.Office number.0)
            ∙ ap (λ (t : NamedDeskState). insert t.state.names name (place.Office number.0)) c.self.view_is;
      },
    )

pub returns-in-Ok-clause-learnt : goal.returns-in-Ok-clause-learnt
returns-in-Ok-clause-learnt g c =
    let number = some_of c.in-Ok.answer.session c.in-Ok.ensures.told.0 in
    ap (λ (t : NamedDeskState). t.learnt) (c.set_session.ensures number.0 number.1) ∙ ap (λ (t : NamedDeskState). t.learnt) c.self.view_is

pub returns-in-Err-clause-opens : goal.returns-in-Err-clause-opens
returns-in-Err-clause-opens g c =
    let name = string_bytes c.args.name in
    let names = c.self.inside.names in
    let put : c.insert.new.self ≡ insert names name (place.Office 0) = c.in_ok-insert.ensures.ok ∙ ap (λ t. insert names t (place.Office 0)) c.in_ok-clone.ensures.cases in
    let free : get names name ≡ None = ap (λ (t : NamedDeskState). get t.state.names name) c.self.view_is ∙ c.requires.free in
    let back : c.remove.new.self ≡ names = c.remove.ensures ∙ ap (λ t. remove c.insert.new.self t) c.deref.ensures ∙ ap (λ m. remove m name) put ∙ freed_again names name (place.Office 0) free in
    (λ i. record { tally = c.in-Err.ensures.counted i; seen = c.self.inside.reviewer; names = back i }) ∙ ap (λ (t : NamedDeskState). t.state) c.self.view_is
