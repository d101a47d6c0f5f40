-- The facts that may share a cell: those whose dimensions have the hash of another fact's. The project's own.
use Rattle.std.specs.Prelude.{◌≡◌, IsTrue, ℕ, ◌==◌, Bool, false, ◌||◌, ◌&&◌, List, [], ◌∷◌, filter}
use Rattle.std.specs.List.{list_any}
use Rattle.filing_facts.specs.Hashes.{hash_of_dims}
use Rattle.filing_model.specs.Common.Text.{Text}
use Rattle.filing_model.specs.Oim.Dimensions.{Dims}
use Rattle.filing_model.specs.Oim.Duplicates.{cell_of}
use Rattle.filing_model.specs.Oim.Facts.{Fact}
use Rattle.report_inspection.specs.Cells.{is_shared}
use Rattle.report_inspection.specs.Runs.{dims_in}

-- the hash of dimensions. No proof looks into it
unfoldable pub hash_at : Dims → ℕ
hash_at dims = hash_of_dims dims

abbrev pub hash_in : Text × Fact → ℕ
hash_in e = hash_at (dims_in e)

-- a fact among these has this hash
abbrev pub has_hash : List (Text × Fact) → ℕ → Bool
has_hash es hash = list_any (λ e. hash == hash_in e) es

-- one has it, and another after it
abbrev pub is_twice : List (Text × Fact) → ℕ → Bool
is_twice [] hash = false
is_twice (e ∷ es) hash = ((hash == hash_in e) && has_hash es hash) || is_twice es hash

-- a hash stands among these
abbrev pub is_in : List ℕ → ℕ → Bool
is_in hashes hash = list_any (λ h. hash == h) hashes

-- just the hashes that more than one of these facts has
abbrev pub AreTwice : List (Text × Fact) → List ℕ → Type 0
AreTwice es hashes = (hash : ℕ) → is_in hashes hash ≡ is_twice es hash

-- those whose hash stands among these
abbrev pub with_hashes : List ℕ → List (Text × Fact) → List (Text × Fact)
with_hashes hashes es = filter (λ e. is_in hashes (hash_in e)) es

-- each cell of more than one fact is what it was, and there is no other
pub record KeepsShared (entries kept : List (Text × Fact)) : Type 0 where
  pub same : (dims : Dims) → IsTrue (is_shared entries dims) → cell_of dims kept ≡ cell_of dims entries
  pub no_other : (dims : Dims) → IsTrue (is_shared kept dims) → IsTrue (is_shared entries dims)
