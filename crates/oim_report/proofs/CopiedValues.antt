-- Owned copies of values, item by item and member by member.
use Rattle.std.proofs.Common.{◌≡◌, ◌∙◌, ap, sym, refl, List, [], ◌∷◌, ◌++◌, Option, None, Some, option_map, option_and_then}
use Rattle.json.specs.Json as json
use Rattle.serde_json.specs.Data.{Data, Items, no_items, item, Members, put}
use Rattle.serde_json.specs.Read.{of_json, of_items, of_members}
use Rattle.serde_json.specs.View.{view, items_view}
use Rattle.serde_json.specs.declared.value.Value.{Value}
use Rattle.filing_model.specs.Common.Text.{Text}

-- the items that were copied, before the rest
abbrev pub before : List Value → Items → Items
before [] rest = rest
before (v ∷ vs) rest = item (view v) (before vs rest)

pub all_copied : (vs : List Value) → before vs no_items ≡ items_view vs
all_copied [] = refl
all_copied (v ∷ vs) = ap (item (view v)) (all_copied vs)

one_more : (vs : List Value) (v : Value) (rest : Items) → before vs (item (view v) rest) ≡ before (vs ++ v ∷ []) rest
one_more [] v rest = refl
one_more (w ∷ vs) v rest = ap (item (view w)) (one_more vs v rest)

more_copied : (vs : List Value) (v : Value) (o : Option Items)
    → option_map (before vs) (option_map (item (view v)) o) ≡ option_map (before (vs ++ v ∷ [])) o
more_copied vs v None = refl
more_copied vs v (Some rest) = ap (λ ds. Some ds) (one_more vs v rest)

-- one more item is copied
pub item_copied : (j : json.Json) (js : json.Items) (vs later : List Value) (v : Value) → Some (view v) ≡ of_json j → later ≡ vs ++ v ∷ []
    → option_map (before vs) (of_items (json.item j js)) ≡ option_map (before later) (of_items js)
item_copied j js vs later v is later_is =
    ap (λ o. option_map (before vs) (option_and_then (λ d. option_map (item d) (of_items js)) o)) (sym is)
    ∙ more_copied vs v (of_items js)
    ∙ ap (λ ws. option_map (before ws) (of_items js)) (sym later_is)

-- an item that is out of range
pub item_refused : (j : json.Json) (js : json.Items) (vs : List Value) → None ≡ of_json j
    → option_map (before vs) (of_items (json.item j js)) ≡ None
item_refused j js vs is = ap (λ o. option_map (before vs) (option_and_then (λ d. option_map (item d) (of_items js)) o)) (sym is)

pub member_copied : (k : Text) (j : json.Json) (ms : json.Members) (old : Members) (d : Data) → Some d ≡ of_json j
    → of_members (json.member k j ms) old ≡ of_members ms (put k d old)
member_copied k j ms old d is = ap (option_and_then (λ d. of_members ms (put k d old))) (sym is)

pub member_refused : (k : Text) (j : json.Json) (ms : json.Members) (old : Members) → None ≡ of_json j
    → of_members (json.member k j ms) old ≡ None
member_refused k j ms old is = ap (option_and_then (λ d. of_members ms (put k d old))) (sym is)
