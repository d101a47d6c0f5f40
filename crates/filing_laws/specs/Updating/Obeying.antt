-- Of allowed duplicates: by pairs of facts, and by cells.
use Rattle.std.specs.Prelude.{◌≡◌, ◌↔◌, Bool, true, false, List, Some, None}
use Rattle.std.specs.declared.cmp.Ordering.TheVariants.{Less}
use Rattle.filing_model.specs.Common.Text.{Text}
use Rattle.filing_model.specs.Oim.Dimensions.{Dims, dims_cmp}
use Rattle.filing_model.specs.Oim.Facts.{Fact}
use Rattle.filing_model.specs.Sessions.Repository.{Repository}
use Rattle.filing_model.specs.Oim.Duplicates.{class_of, allows, facts_of, obeys, cell_of, least_disallowed}
use Rattle.filing_model.specs.Sessions.Sessions.{repository_obeys, refusal_of}
use Rattle.filing_model.specs.declared.duplicates.Allowed.{Allowed}

-- whether the cell of these dimensions is one that the report allows
abbrev pub is_allowed : Allowed → List (Text × Fact) → Dims → Bool
is_allowed a entries dims = allows a (class_of (facts_of (cell_of dims entries)))

-- a report obeys exactly where each of its cells is allowed
abbrev pub ObeysWhereEachCellIsAllowed : Type 0
ObeysWhereEachCellIsAllowed = (a : Allowed) (entries : List (Text × Fact))
    → (obeys a entries ≡ true) ↔ ((dims : Dims) → is_allowed a entries dims ≡ true)

pub record IsLeastDisallowed (a : Allowed) (entries : List (Text × Fact)) (dims : Dims) : Type 0 where
  pub disallowed : is_allowed a entries dims ≡ false
  pub least : (lesser : Dims) → dims_cmp lesser dims ≡ Less → is_allowed a entries lesser ≡ true

-- the least disallowed cell is disallowed, and each lesser cell is allowed
abbrev pub LeastDisallowedIsTheLeast : Type 0
LeastDisallowedIsTheLeast = (a : Allowed) (entries : List (Text × Fact)) (dims : Dims)
    → least_disallowed a entries ≡ Some dims → IsLeastDisallowed a entries dims

-- a repository obeys exactly where a commit that left it would not be refused
abbrev pub RepositoryObeysWhereNotRefused : Type 0
RepositoryObeysWhereNotRefused = (c : Repository) → (repository_obeys c ≡ true) ↔ (refusal_of c ≡ None)
