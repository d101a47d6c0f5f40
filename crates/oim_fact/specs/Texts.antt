-- Texts of the program as the definitions see them, and lists of texts that were sorted.
use Rattle.std.specs.Prelude.{◌≡◌, ⊤, Bool, false, ◌||◌, List, [], ◌∷◌, map, Option, option_map, String, string_bytes}
use Rattle.std.specs.Ordering.{is_lt}
use Rattle.std.specs.declared.alloc.Global.{Global}
use Rattle.filing_model.specs.Common.Text.{Text, text_cmp, text_eq}

-- a text that may be null, as the definitions have it
abbrev pub text_view : Option (String Global) → Option Text
text_view text = option_map string_bytes text

abbrev pub row_of : String Global × String Global → Text × Text
row_of row = (string_bytes row.0, string_bytes row.1)

abbrev pub rows_view : List (String Global × String Global) → List (Text × Text)
rows_view rows = map row_of rows

-- the texts by which entries are named
abbrev pub names_in : {X : Type 0} → List (Text × X) → List Text
names_in entries = map (λ e. e.0) entries

-- no text is less than the one before it
abbrev pub NoneFalls : List Text → Type 0
NoneFalls [] = ⊤
NoneFalls (t ∷ []) = ⊤
NoneFalls (t ∷ u ∷ ts) = (is_lt (text_cmp u t) ≡ false) × NoneFalls (u ∷ ts)

-- the first text is this one
abbrev pub begins_with : Text → List Text → Bool
begins_with t [] = false
begins_with t (u ∷ us) = text_eq t u

-- some text stands twice, one after the other
abbrev pub has_equal_neighbours : List Text → Bool
has_equal_neighbours [] = false
has_equal_neighbours (t ∷ ts) = begins_with t ts || has_equal_neighbours ts
