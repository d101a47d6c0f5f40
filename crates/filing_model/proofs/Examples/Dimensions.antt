-- Worked examples of dimension sets and prefixes.
use Rattle.std.specs.Prelude.{◌≡◌, ℕ, List, [], ◌∷◌, codes, Option, None, Some, Ok, refl}
use Rattle.std.specs.declared.cmp.Ordering.TheVariants.{Less}
use Rattle.filing_model.specs.Common.Text.{Text}
use Rattle.filing_model.specs.Common.TextMap.{from_entries}
use Rattle.filing_model.specs.Oim.Dimensions.{dims_cmp, dims_of}
use Rattle.filing_model.specs.Oim.Prefixes.{prefixes_of}

abbrev concept : List ℕ → Text × Option Text
concept name = (codes "concept", Some name)

-- a dimension of a taxonomy
abbrev taxonomy : Option Text → Text × Option Text
taxonomy value = (codes "ex:d", value)

-- ---- the order of dimension sets

pub null_is_less_than_text : dims_cmp (concept (codes "ex:A") ∷ taxonomy None ∷ []) (concept (codes "ex:A") ∷ taxonomy (Some []) ∷ []) ≡ Less
null_is_less_than_text = refl

-- ---- the dimension set of names with their values

pub in_order_of_names : dims_of (taxonomy None ∷ concept (codes "ex:A") ∷ []) ≡ Ok (concept (codes "ex:A") ∷ taxonomy None ∷ [])
in_order_of_names = refl

-- ---- the prefixes of a report

pub prefixes_in_order : prefixes_of ((codes "b", codes "u") ∷ (codes "a", codes "v") ∷ [])
    ≡ Ok (from_entries ((codes "a", codes "v") ∷ (codes "b", codes "u") ∷ []))
prefixes_in_order = refl
