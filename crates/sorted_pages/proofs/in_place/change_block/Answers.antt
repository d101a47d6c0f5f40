use Rattle.std.proofs.Common.{◌∙◌, ap}
use Rattle.std.specs.Arc.{arc_with_value}
use Rattle.sorted_pages.proofs.InPlace.{at_err, at_ok}
use Rattle.sorted_pages.proofs.in_place.change_block.Goals as goal

pub returns-in-Some-clause-same : goal.returns-in-Some-clause-same
returns-in-Some-clause-same g c =
    at_ok c.change_items.result (λ made same is_false. ap (arc_with_value c.args.block.now) (same is_false ∙ c.in-Some.ensures.value))
    c.change_items.ensures.same

pub returns-in-Some-clause-failed : goal.returns-in-Some-clause-failed
returns-in-Some-clause-failed g c =
    at_err c.change_items.result (λ same. ap (arc_with_value c.args.block.now) (same ∙ c.in-Some.ensures.value)) c.change_items.ensures.failed
