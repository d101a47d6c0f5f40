use Rattle.std.proofs.Common.{◌∙◌, ap, map, rules, refl}
use Rattle.std.specs.Arc.{arc_value}
use Rattle.std.proofs.lemmas.Iterator.{items_from_drains, YieldsList-from_map_by}
use Rattle.std.proofs.lemmas.Iterator.Consumers.{YieldsList-from_first, YieldsList-at}
use Rattle.filing_model.specs.Oim.Duplicates.{class_of, has_dims}
use Rattle.filing_index.proofs.FoundEntries.{found_all}
use Rattle.filing_index.proofs.cells.class_in.Goals as goal

pub returns-in-Some : goal.returns-in-Some
returns-in-Some c = λ facts index.
    let found = c.of_hash-cell.ensures facts index ∙ found_all (has_dims c.args.dims.now) facts in
    c.in-Some.ensures ∙ ap (λ es. class_of (map (λ e. e.1) es)) found

pub returns : goal.returns
returns c = λ facts index.
    let (given, (end, (last, given_by, over)), class) = c.class_over.ensures in
    let all = items_from_drains given (last, given_by, λ _. (end, over))
    (YieldsList-from_map_by _ (λ f. arc_value f.now) (λ e. e.1)
    (YieldsList-at c.map.ensures.source (YieldsList-from_first (λ x. x.now) (λ f. f) c.of_hash-cell.result refl))
    c.map.ensures.closure (λ x r q k. search rules)) in
    let found = c.of_hash-cell.ensures facts index ∙ found_all (has_dims c.args.dims.now) facts in
    class ∙ ap class_of (all ∙ ap (map (λ e. e.1)) found)
