use Rattle.std.proofs.Common.{◌≡◌, ◌∙◌, Some, ap, sym, arith}
use Rattle.json.specs.Find.{at}
use Rattle.json.specs.Json.{array}
use Rattle.json.specs.Value.{items_view, value_view}
use Rattle.json.proofs.Trees.{get_item_past, get_item_within, view-Array}
use Rattle.script_format.proofs.line_outcome.part_at.Goals as goal

pub returns-then-place-len : goal.returns-then-place-len
returns-then-place-len c =
    let parts = c.in-Array.parts in
    let seen : value_view c.args.value ≡ array (items_view parts.items) = ap value_view c.in-Array.is ∙ view-Array parts in
    ap (λ v. Some (value_view v)) c.swap_remove.ensures.value
    ∙ get_item_within parts.items c.args.place c.swap_remove.result (omega arith)
    ∙ ap (at c.args.place) (sym seen)

pub returns-in-Array : goal.returns-in-Array
returns-in-Array c =
    let parts = c.in-Array.parts in
    let seen : value_view c.args.value ≡ array (items_view parts.items) = ap value_view c.in-Array.is ∙ view-Array parts in
    get_item_past parts.items c.args.place (omega arith) ∙ ap (at c.args.place) (sym seen)
