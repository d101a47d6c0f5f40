-- Finite maps from texts, which compute. The project's own.
use Rattle.std.specs.Prelude.{not, T, List, [], ◌∷◌, map, Option}
use Rattle.std.specs.Cmp.Lexicographic.{nat_list_cmp_total}
use Rattle.std.specs.FinMap.Entries.{find, put, where_key, is_sorted, is_sorted-put, is_sorted-where_key}
use Rattle.filing_model.specs.Common.Text.{Text, text_cmp, text_eq}

-- the keys strictly rise in byte order, so a map has one list
pub record TextMap (X : Type 0) : Type 0 where
  pub entries : List (Text × X)
  pub sorted : T (is_sorted text_cmp entries)

abbrev pub empty : {X : Type 0} → TextMap X
empty = record { entries = []; sorted = tt }

abbrev pub get : {X : Type 0} → TextMap X → Text → Option X
get m key = find text_cmp key m.entries

-- the map with this value at the key
abbrev pub insert : {X : Type 0} → TextMap X → Text → X → TextMap X
insert m key x = record { entries = put text_cmp key x m.entries; sorted = is_sorted-put text_cmp nat_list_cmp_total key x m.entries m.sorted }

-- the map of these entries. Of a key that stands twice the first value counts
abbrev pub from_entries : {X : Type 0} → List (Text × X) → TextMap X
from_entries [] = empty
from_entries (e ∷ es) = insert (from_entries es) e.0 e.1

-- the map with nothing at the key
abbrev pub remove : {X : Type 0} → TextMap X → Text → TextMap X
remove m key = record {
  entries = where_key text_cmp
      (λ k. not (text_eq key k)) m.entries;
  sorted = is_sorted-where_key text_cmp
      (λ k. not (text_eq key k)) m.entries m.sorted;
}

abbrev pub keys : {X : Type 0} → TextMap X → List Text
keys m = map (λ e. e.0) m.entries

abbrev pub values : {X : Type 0} → TextMap X → List X
values m = map (λ e. e.1) m.entries
