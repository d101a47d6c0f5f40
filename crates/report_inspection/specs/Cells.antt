-- The cells of a report that have more than one fact (Open Information Model 1.0, `xbrl:allowedDuplicates`).
-- How they are told is the project's own.
use Rattle.std.specs.Prelude.{◌≡◌, IsTrue, Bool, nat_lt, if◌then◌else◌, List, [], ◌∷◌, ◌++◌, map, length}
use Rattle.std.specs.List.{list_all, list_any, AllByRecursion}
use Rattle.std.specs.List.Sorted.{IsStrictlySortedBy}
use Rattle.filing_model.specs.Common.Text.{Text}
use Rattle.filing_model.specs.Oim.Dimensions.{Dims, dims_cmp, dims_eq}
use Rattle.filing_model.specs.Oim.Duplicates.{allows, cell_of, class_of, facts_of}
use Rattle.filing_model.specs.Oim.Facts.{Fact}
use Rattle.filing_model.specs.declared.duplicates.Allowed.{Allowed}
use Rattle.filing_model.specs.declared.duplicates.Class.{Class}

-- what is told of a cell
pub record ToldCell : Type 0 where
  pub dims : Dims
  pub class : Class
  pub ids : List Text
  pub allowed : Bool

-- the class of the facts with these dimensions
abbrev pub class_at : List (Text × Fact) → Dims → Class
class_at entries dims = class_of (facts_of (cell_of dims entries))

-- the cell of these dimensions: its class by all pairs, all its identifiers in the order of the entries,
-- and whether it may stand
abbrev pub cell_at : Allowed → List (Text × Fact) → Dims → ToldCell
cell_at a entries dims = record {
  dims = dims;
  class = class_at entries dims;
  ids = map (λ e. e.0) (cell_of dims entries);
  allowed = allows a (class_at entries dims);
}

-- more than one fact has these dimensions
abbrev pub is_shared : List (Text × Fact) → Dims → Bool
is_shared entries dims = nat_lt 1 (length (cell_of dims entries))

-- a cell of more than one fact, as it is
pub record IsCell (a : Allowed) (entries : List (Text × Fact)) (cell : ToldCell) : Type 0 where
  pub is : cell ≡ cell_at a entries cell.dims
  pub shared : IsTrue (is_shared entries cell.dims)

abbrev pub has_cell : List ToldCell → Dims → Bool
has_cell cells dims = list_any (λ cell. dims_eq dims cell.dims) cells

-- each may stand in the report
abbrev pub are_allowed : List ToldCell → Bool
are_allowed cells = list_all (λ cell. cell.allowed) cells

-- all cells of more than one fact, in the order of their dimension sets
pub record AreCells (a : Allowed) (entries : List (Text × Fact)) (cells : List ToldCell) : Type 0 where
  pub rise : IsStrictlySortedBy dims_cmp (map (λ cell. cell.dims) cells)
  pub each : AllByRecursion (IsCell a entries) cells
  pub every : (dims : Dims) → IsTrue (is_shared entries dims) → IsTrue (has_cell cells dims)

-- what a run of facts with one dimension set leaves of the cells: one more where it has more than one fact
abbrev pub with_run : Allowed → Dims → List (Text × Fact) → List ToldCell → List ToldCell
with_run a dims run cells = if nat_lt 1 (length run) then cells ++ cell_at a run dims ∷ [] else cells
