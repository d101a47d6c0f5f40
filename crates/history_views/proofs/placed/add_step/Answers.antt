use Rattle.std.proofs.Common.{◌∙◌, ⊎_elim, inl, inr, ap}
use Rattle.std.proofs.lemmas.Result.{on_ok_weaker}
use Rattle.filing_step.specs.Steps.{step_of}
use Rattle.history_views.proofs.PlacesKept.{name_added, place_added}
use Rattle.history_views.proofs.placed.add_step.Goals as goal

pub returns-in-Load : goal.returns-in-Load
returns-in-Load c = λ h e is has.
    on_ok_weaker c.add_name.result (name_added c.args.places.now c.add_name.new.self h e has _ c.deref.result.now _
    (is ∙ ap step_of c.in-Load.is) c.deref.ensures)
    c.add_name.ensures

pub returns-in-Add : goal.returns-in-Add
returns-in-Add c = λ h e is has.
    on_ok_weaker c.add_place.result
    (λ added. place_added c.args.places.now c.add_place.new.self h e has _ _ c.deref-in-Add.result.now c.deref-in-Add-2.result.now
    (⊎_elim (λ addition. inl (addition.0, is ∙ ap step_of addition.1)) (λ removal. inr (is ∙ ap step_of removal)) c.in-Add.is)
    (c.deref-in-Add.ensures, c.deref-in-Add-2.ensures, added)) c.add_place.ensures
