-- Dimension sets (xBRL-JSON 1.0, the `dimensions` object of a fact). The order and the limit on lengths are the project's own.
use Rattle.std.specs.Prelude.{◌≡◌, Bool, true, false, T, not, ◌&&◌, ◌||◌, nat_lt, if◌then◌else◌, List, [], ◌∷◌, ◌++◌, length, map, codes, Option, None, Some, is_none, Result, Ok, Err}
use Rattle.std.specs.Hash as fed
use Rattle.std.specs.Hash.{HashWrites}
use Rattle.std.specs.declared.cmp.Ordering.{Ordering}
use Rattle.std.specs.Ordering.{on, then_cmp, eq_by_cmp}
use Rattle.std.specs.FinMap.Entries.{find, is_sorted}
use Rattle.std.specs.List.{list_any}
use Rattle.std.specs.Option.{option_cmp, option_flatten}
use Rattle.std.specs.Cmp.Lexicographic.{slice_cmp}
use Rattle.filing_model.specs.Common.Text.{Text, text_cmp, text_eq, has_repeats}
use Rattle.filing_model.specs.Common.TextMap.{from_entries}
use Rattle.filing_model.specs.declared.faults.DimFault.{DimFault}
use Rattle.filing_model.specs.declared.faults.DimFault.TheVariants.{NameTwice, NullCore, NoConcept, TooLong}

-- names with their values in byte order of the names, none twice. A taxonomy dimension may be null
abbrev pub Dims : Type 0
Dims = List (Text × Option Text)

-- names by bytes, then null before any text, then values by bytes
abbrev pub dim_cmp : Text × Option Text → Text × Option Text → Ordering
dim_cmp = then_cmp (on (λ p. p.0) text_cmp) (on (λ p. p.1) (option_cmp text_cmp))

-- dimension by dimension; a set that begins another is less
abbrev pub dims_cmp : Dims → Dims → Ordering
dims_cmp = slice_cmp dim_cmp

abbrev pub dims_eq : Dims → Dims → Bool
dims_eq = eq_by_cmp dims_cmp

-- what a hasher is fed of a set: as of its list
abbrev pub dims_hash : Dims → HashWrites
dims_hash dims = fed.slice (λ d. fed.str d.0 ++ fed.option fed.str d.1) dims

-- the dimensions that Open Information Model 1.0 defines itself. All other names are names of a taxonomy
abbrev pub core_names : List Text
core_names = codes "concept" ∷ codes "entity" ∷ codes "period" ∷ codes "unit" ∷ codes "language" ∷ codes "noteId" ∷ []

abbrev pub is_core : Text → Bool
is_core name = list_any (text_eq name) core_names

-- the value at a core dimension's name
abbrev pub core_value : Text → Dims → Option Text
core_value name dims = option_flatten (find text_cmp name dims)

abbrev pub concept_of : Dims → Option Text
concept_of dims = core_value (codes "concept") dims

abbrev pub period_of : Dims → Option Text
period_of dims = core_value (codes "period") dims

abbrev pub unit_of : Dims → Option Text
unit_of dims = core_value (codes "unit") dims

abbrev pub is_null_core : Text × Option Text → Bool
is_null_core dim = is_core dim.0 && is_none dim.1

abbrev pub is_concept : Text × Option Text → Bool
is_concept dim = text_eq dim.0 (codes "concept")

-- whether the text has more than 4,096 bytes
abbrev pub is_too_long : Text → Bool
is_too_long text = nat_lt 4096 (length text)

-- the same of either part of a dimension
abbrev pub is_long_dim : Text × Option Text → Bool
is_long_dim (name, None) = is_too_long name
is_long_dim (name, Some text) = is_too_long name || is_too_long text

-- what a dimension set is
pub record AreDims (dims : Dims) : Type 0 where
  pub rise : T (is_sorted text_cmp dims)
  pub no_null : list_any is_null_core dims ≡ false
  pub concept : list_any is_concept dims ≡ true
  pub short : list_any is_long_dim dims ≡ false

-- the dimension set of names with their values, or the first fault
abbrev pub dims_of : List (Text × Option Text) → Result Dims DimFault
dims_of named =
    if has_repeats (map (λ p. p.0) named) then Err NameTwice
    else if list_any is_null_core named then Err NullCore
    else if not (list_any is_concept named) then Err NoConcept
    else if list_any is_long_dim named then Err TooLong
    else Ok (from_entries named).entries
