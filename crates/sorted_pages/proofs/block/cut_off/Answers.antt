use Rattle.std.proofs.Common.{◌≡◌, ◌∙◌, ap, ◌++◌, take, drop, take-append-drop}
use Rattle.std.specs.Arc.{arc_value}
use Rattle.sorted_pages.proofs.block.cut_off.Goals as goal

pub returns-clause-items : goal.returns-clause-items
returns-clause-items g c =
    let block : arc_value c.in_ok-block.block ≡ take c.args.piece c.args.rest.now.items =
    c.in_ok-block.ensures.ok ∙ c.of.ensures ∙ ap (λ v. v.items) c.replace-front.ensures.value ∙ c.in_ok-later.ensures.items in
    let later : c.replace-front.new.dest.items ≡ drop c.args.piece c.args.rest.now.items =
    ap (λ v. v.items) c.replace-front.ensures.after ∙ c.in_ok-later.ensures.tail in
    (λ i. block i ++ later i) ∙ take-append-drop c.args.piece c.args.rest.now.items
