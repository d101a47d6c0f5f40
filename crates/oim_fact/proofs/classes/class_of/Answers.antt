-- A list's iterator gives its elements.
use Rattle.std.proofs.Common.{◌≡◌, ◌∙◌, ap, refl, List, [], ◌∷◌, map}
use Rattle.std.specs.Arc.{arc_value}
use Rattle.std.proofs.lemmas.Iterator.{items_from_drains, YieldsList-from_slice}
use Rattle.filing_model.specs.Oim.Duplicates.{class_of}
use Rattle.oim_fact.specs.SharedFacts.{FactRef, facts_behind}
use Rattle.oim_fact.proofs.classes.class_of.Goals as goal

behind_each : (given : List FactRef) → facts_behind given ≡ map arc_value (map (λ f. f.now) given)
behind_each [] = refl
behind_each (f ∷ given) = ap (λ fs. arc_value f.now ∷ fs) (behind_each given)

pub returns : goal.returns
returns c =
    let (given, (end, (last, given_by, over)), class) = c.class_over.ensures in
    let all = items_from_drains given (last, given_by, λ _. (end, over)) (YieldsList-from_slice c.args.facts.now c.iter.ensures.rest) in
    class ∙ ap class_of (behind_each given ∙ ap (map arc_value) all)
