-- Where facts may share a cell, and the least of some cells that is not allowed. The project's own.
use Rattle.std.specs.Prelude.{◌≡◌, Bool, false, cond, ◌==◌, List, [], ◌∷◌, map, Option, Some, None}
use Rattle.std.specs.List.{filter, fold}
use Rattle.std.specs.Borrow.{Bor}
use Rattle.filing_model.specs.Common.Text.{Text}
use Rattle.filing_model.specs.Common.TextMap.{TextMap}
use Rattle.filing_model.specs.Oim.Dimensions.{Dims, dims_eq}
use Rattle.filing_model.specs.Oim.Facts.{Fact}
use Rattle.filing_model.specs.Oim.Duplicates.{facts_of, is_disallowed, lesser_dims, least_dims}
use Rattle.filing_model.specs.declared.duplicates.Allowed.{Allowed}
use Rattle.filing_index.specs.Index.{IndexEntry}

-- ---- the facts that may not be alone in their cell

-- whether an entry, if any, has the hash of another
abbrev pub shares_hash : Option IndexEntry → IndexEntry → Bool
shares_hash None e = false
shares_hash (Some other) e = other.0.0 == e.0.0

abbrev pub first_of : List IndexEntry → Option IndexEntry
first_of [] = None
first_of (e ∷ es) = Some e

-- the facts that stand right before another one of their hash
abbrev pub crowded : List IndexEntry → List (Text × Fact)
crowded [] = []
crowded (e ∷ es) = cond (shares_hash (first_of es) e) ((e.0.1, e.1) ∷ crowded es) (crowded es)

-- those facts among an entry, if any, and the entries ahead of it
abbrev pub crowded_from : Option IndexEntry → List IndexEntry → List (Text × Fact)
crowded_from None ahead = []
crowded_from (Some e) ahead = crowded (e ∷ ahead)

-- ---- the least cell

-- whether other dimensions, if any, are these
abbrev pub are_these : Option Dims → Dims → Bool
are_these None dims = false
are_these (Some others) dims = dims_eq others dims

-- the facts behind some references
abbrev pub facts_given : List (Bor (Text × Fact)) → List Fact
facts_given given = map (λ e. e.now.1) given

-- the least dimensions of these facts whose cell is not allowed in a report that has all
abbrev pub least_among_facts : List Fact → Allowed → TextMap Fact → Option Dims
least_among_facts facts a all = least_dims (filter (is_disallowed a (facts_of all.entries)) (map (λ f. f.dims) facts))

-- the least does not change where dimensions, if there are any, are looked at once more
abbrev pub WasLookedAt : (Dims → Bool) → Option Dims → Option Dims → Type 0
WasLookedAt disallowed None least = Unit {0}
WasLookedAt disallowed (Some dims) least = fold lesser_dims least (filter disallowed (dims ∷ [])) ≡ least
