use Rattle.std.proofs.Common.{◌≡◌, ◌∙◌, ◌++◌, [], ap, sym, map, option_map}
use Rattle.std.proofs.lemmas.List.{append-nil}
use Rattle.report_inspection.specs.Warnings.{told}
use Rattle.report_inspection.proofs.ToldWarnings.{names_told}
use Rattle.report_inspection.proofs.warnings.warn_of_names.Goals as goal

pub returns : goal.returns
returns c =
    let fact = option_map (λ t. t.now) c.args.fact in
    let before = c.args.warnings.now.items in
    let after = c.loop-name.warnings.items in
    let none : c.loop-name.name-iterator ≡ [] = c.in-None.ensures.steps.0 in
    let all : c.into_iter-name-iterator.result ≡ c.args.names.now.keys = c.into_iter-name-iterator.ensures.into_iter_gives ∙ c.iter-name-items.ensures.rest in
    names_told c.args.kind fact c.args.names.now before after c.iter-name-items.ensures.ordered
    (sym (append-nil (map told after))
    ∙ ap (λ ks. map told after ++ map (λ k. (c.args.kind, (fact, k.now))) ks) (sym none)
    ∙ c.loop-name.invariant
    ∙ ap (λ ks. map told before ++ map (λ k. (c.args.kind, (fact, k.now))) ks) all)
