-- Texts, which compare by their bytes.
use Rattle.std.specs.Prelude.{ℕ, Bool, false, ◌||◌, List, [], ◌∷◌}
use Rattle.std.specs.declared.cmp.Ordering.{Ordering}
use Rattle.std.specs.List.{list_any}
use Rattle.std.specs.Ordering.{nat_cmp, eq_by_cmp}
use Rattle.std.specs.Cmp.Lexicographic.{slice_cmp}

-- a text is its bytes
abbrev pub Text : Type 0
Text = List ℕ

-- byte order
abbrev pub text_cmp : Text → Text → Ordering
text_cmp = slice_cmp nat_cmp

abbrev pub text_eq : Text → Text → Bool
text_eq = eq_by_cmp text_cmp

-- whether some text stands in the list again, after itself
abbrev pub has_repeats : List Text → Bool
has_repeats [] = false
has_repeats (t ∷ ts) = list_any (text_eq t) ts || has_repeats ts
