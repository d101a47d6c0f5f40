-- Words of the slow functions that compare facts pair by pair.
use Rattle.std.specs.Prelude.{ℕ, Bool, true, not, List, Option, Some, None, option_and_then, position}
use Rattle.std.specs.List.{filter}
use Rattle.filing_model.specs.Oim.Facts.{Fact}
use Rattle.filing_model.specs.Oim.Duplicates.{is_complete, is_consistent, is_apart, has_dims, disallowed_dims, least_dims}
use Rattle.filing_model.specs.declared.by_pairs.Bond.{Bond}
use Rattle.filing_model.specs.declared.by_pairs.Bond.TheVariants as bond
use Rattle.filing_model.specs.declared.duplicates.Allowed.{Allowed}
use Rattle.filing_model.specs.declared.duplicates.Pair.{Pair}

-- whether a pair is at least what the bond asks
abbrev pub binds : Bond → Pair → Bool
binds bond.Complete p = is_complete p
binds bond.Consistent p = is_consistent p
binds bond.Together p = not (is_apart p)

-- whether a fact is of the cell of another, or of all facts where none is given
abbrev pub is_of : Option Fact → Fact → Bool
is_of None fact = true
is_of (Some other) fact = has_dims other.dims fact

abbrev pub cell_with : Option Fact → List Fact → List Fact
cell_with one facts = filter (is_of one) facts

-- the place of the first fact of the least cell that is not allowed
abbrev pub least_disallowed_place : Allowed → List Fact → Option ℕ
least_disallowed_place allowed facts = option_and_then (λ dims. position (has_dims dims) facts)
    (least_dims (disallowed_dims allowed facts))
