-- A `BTreeMap` with `String` keys as a finite map from texts.
use Rattle.std.specs.Prelude.{List, map, String, string_bytes}
use Rattle.std.specs.declared.alloc.Global.{Global}
use Rattle.filing_model.specs.Common.Text.{Text}
use Rattle.filing_model.specs.Common.TextMap.{TextMap, from_entries}

-- an entry by the bytes of its key, with its value under f
abbrev pub entry_of : {V X : Type 0} → (V → X) → String Global × V → Text × X
entry_of f e = (string_bytes e.0, f e.1)

-- the entries so
abbrev pub keyed : {V X : Type 0} → (V → X) → List (String Global × V) → List (Text × X)
keyed f entries = map (λ e. (string_bytes e.0, f e.1)) entries

abbrev pub keyed_map : {V X : Type 0} → (V → X) → List (String Global × V) → TextMap X
keyed_map f entries = from_entries (keyed f entries)
