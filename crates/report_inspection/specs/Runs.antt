-- Facts in the order of their dimension sets, and the runs of those that share one.
use Rattle.std.specs.Prelude.{◌≡◌, ⊤, ℕ, suc, if◌then◌else◌, false, List, [], ◌∷◌, ◌++◌}
use Rattle.std.specs.List.{AllByRecursion}
use Rattle.std.specs.Ordering.{is_lt}
use Rattle.filing_model.specs.Common.Text.{Text}
use Rattle.filing_model.specs.Oim.Dimensions.{Dims, dims_cmp, dims_eq}
use Rattle.filing_model.specs.Oim.Duplicates.{cell_of}
use Rattle.filing_model.specs.Oim.Facts.{Fact}

abbrev pub dims_in : Text × Fact → Dims
dims_in e = e.1.dims

-- no dimension set is less than one before it
abbrev pub NoneFalls : List (Text × Fact) → Type 0
NoneFalls [] = ⊤
NoneFalls (e ∷ es) = AllByRecursion (λ later. is_lt (dims_cmp (dims_in later) (dims_in e)) ≡ false) es × NoneFalls es

-- entries in the order of their dimension sets, of which each cell is what it was
pub record AreInOrder (entries sorted : List (Text × Fact)) : Type 0 where
  pub rise : NoneFalls sorted
  pub cells : (dims : Dims) → cell_of dims sorted ≡ cell_of dims entries

-- the first of these, if any, has other dimensions
abbrev pub Differs : Dims → List (Text × Fact) → Type 0
Differs dims [] = ⊤
Differs dims (e ∷ es) = ¬ (dims_in e ≡ dims)

-- how many at the front have these dimensions
abbrev pub run_length : Dims → List (Text × Fact) → ℕ
run_length dims [] = 0
run_length dims (e ∷ es) = if dims_eq dims (dims_in e) then suc (run_length dims es) else 0

-- each has these dimensions
abbrev pub HaveDims : Dims → List (Text × Fact) → Type 0
HaveDims dims es = AllByRecursion (λ e. dims_in e ≡ dims) es

-- a front of some entries with the dimensions of the first, and the rest, which begins with others
pub record IsRun (dims : Dims) (entries run rest : List (Text × Fact)) : Type 0 where
  pub parts : entries ≡ run ++ rest
  pub front : HaveDims dims run
  pub others : Differs dims rest
