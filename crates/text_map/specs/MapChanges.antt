-- What changes make of a finite map from texts.
use Rattle.std.specs.Prelude.{List, [], ◌∷◌}
use Rattle.sorted_pages.specs.declared.apply.Edit.{Edit}
use Rattle.sorted_pages.specs.declared.apply.Edit.TheVariants.{Put, Remove}
use Rattle.filing_model.specs.Common.Text.{Text}
use Rattle.filing_model.specs.Common.TextMap.{TextMap, insert, remove}

-- the map with an entry put, or with nothing at its name
abbrev pub map_with_change : {X : Type 0} → Edit (Text × X) → TextMap X → TextMap X
map_with_change (Put e) m = insert m e.0 e.1
map_with_change (Remove e) m = remove m e.0

-- the map with each of these changes. Where their names differ, their order does not matter
abbrev pub map_with_changes : {X : Type 0} → List (Edit (Text × X)) → TextMap X → TextMap X
map_with_changes [] m = m
map_with_changes (c ∷ cs) m = map_with_change c (map_with_changes cs m)
