use Rattle.std.proofs.Common.{◌≡◌, ◌∙◌, sym, refl, Bool, true, false}
use Rattle.filing_model.proofs.Sessions.Things.{thing_decides}
use Rattle.filing_step.specs.Steps.{thing_of}
use Rattle.filing_step.proofs.compared_things.ThingPartialEq.eq.Goals as goal

-- tests that pass alike are one
same_tests : (a b : Bool) → (a ≡ true → b ≡ true) → (b ≡ true → a ≡ true) → a ≡ b
same_tests true true to back = refl
same_tests true false to back = sym (to refl)
same_tests false true to back = back refl
same_tests false false to back = refl

pub returns : goal.returns
returns c =
    let tells = thing_decides (thing_of c.args.self.now) (thing_of c.args.other.now) in
    same_tests c.are_same_things.result _ (λ h. tells.1 (c.are_same_things.ensures.0 h)) (λ h. c.are_same_things.ensures.1 (tells.0 h))
