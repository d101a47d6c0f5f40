-- Worked examples of pairs, classes and allowed duplicates.
use Rattle.std.specs.Prelude.{◌≡◌, ◌*◌, ◌^◌, Bool, true, false, ℕ, pos, neg_ℤ, List, [], ◌∷◌, map, Some, None, codes, refl}
use Rattle.filing_model.specs.Common.Text.{Text}
use Rattle.filing_model.specs.Oim.Dimensions.{Dims}
use Rattle.filing_model.specs.Oim.Facts.{Fact, FactValue, Nil, Written, Number}
use Rattle.filing_model.specs.Oim.Duplicates.{pair_of, class_of, allows, obeys, least_disallowed, cell_of}
use Rattle.filing_model.specs.declared.duplicates.Allowed.TheVariants as allowed
use Rattle.filing_model.specs.declared.duplicates.Allowed.{Allowed}
use Rattle.filing_model.specs.declared.duplicates.Class.{Class}
use Rattle.filing_model.specs.declared.duplicates.Class.TheVariants as class
use Rattle.filing_model.specs.declared.duplicates.Pair.TheVariants as pair

abbrev pub assets : Dims
assets = (codes "concept", Some (codes "ex:Assets")) ∷ []

abbrev cash : Dims
cash = (codes "concept", Some (codes "ex:Cash")) ∷ []

abbrev with : Dims → FactValue → Fact
with dims value = record { dims = dims; value = value; links = None }

abbrev nil : Fact
nil = with assets Nil

abbrev written : Text → Fact
written text = with assets (Written text)

-- a whole number, without decimals
abbrev exact : Text → ℕ → Fact
exact text n = with assets (Number text (pos (n * 10 ^ 15)) None)

-- a whole number rounded to units of 10 ^ places
abbrev rounded : Text → ℕ → ℕ → Fact
rounded text n places = with assets (Number text (pos (n * 10 ^ 15)) (Some (neg_ℤ (pos places))))

-- the number 1, with digits after the point
abbrev one_at : Text → ℕ → Fact
one_at text places = with assets (Number text (pos (10 ^ 15)) (Some (pos places)))

-- ---- pairs

pub a_text_and_a_number : pair_of (written (codes "1")) (exact (codes "1") 1) ≡ pair.Inconsistent
a_text_and_a_number = refl

pub one_number_in_two_spellings : pair_of (one_at (codes "1.0") 1) (one_at (codes "1.00") 1) ≡ pair.Complete
one_number_in_two_spellings = refl

pub neighbours_share_their_end : pair_of (rounded (codes "1000") 1000 3) (rounded (codes "2000") 2000 3) ≡ pair.Consistent
neighbours_share_their_end = refl

-- ---- classes

-- the first is consistent with both others, and those two are not
pub each_pair_counts : class_of (rounded (codes "10") 10 1 ∷ exact (codes "6") 6 ∷ exact (codes "14") 14 ∷ []) ≡ class.Inconsistent
each_pair_counts = refl

pub two_sets_of_dimensions_beside_inconsistent_facts : class_of (with assets Nil ∷ exact (codes "0") 0 ∷ with cash Nil ∷ []) ≡ class.Mixed
two_sets_of_dimensions_beside_inconsistent_facts = refl

-- ---- allowed duplicates

-- each class that there is
abbrev classes : List Class
classes = class.Empty ∷ class.Single ∷ class.Complete ∷ class.Consistent ∷ class.Inconsistent ∷ class.Mixed ∷ []

abbrev allowed_by : Allowed → List Bool
allowed_by a = map (allows a) classes

pub classes_that_are_allowed : map allowed_by (allowed.Never ∷ allowed.Complete ∷ allowed.Consistent ∷ allowed.All ∷ [])
    ≡ (true ∷ true ∷ false ∷ false ∷ false ∷ false ∷ []) ∷ (true ∷ true ∷ true ∷ false ∷ false ∷ false ∷ [])
    ∷ (true ∷ true ∷ true ∷ true ∷ false ∷ false ∷ []) ∷ (true ∷ true ∷ true ∷ true ∷ true ∷ false ∷ []) ∷ []
classes_that_are_allowed = refl

-- ---- reports

-- two neighbours of one concept behind a fact of another
abbrev pub entries : List (Text × Fact)
entries = (codes "a", rounded (codes "1000") 1000 3) ∷ (codes "b", with cash Nil) ∷ (codes "c", rounded (codes "2000") 2000 3) ∷ []

pub the_cell_of_the_neighbours : cell_of assets entries ≡ (codes "a", rounded (codes "1000") 1000 3) ∷ (codes "c", rounded (codes "2000") 2000 3) ∷ []
the_cell_of_the_neighbours = refl

pub neighbours_obey_consistent : obeys allowed.Consistent entries ≡ true
neighbours_obey_consistent = refl

pub the_cell_of_the_neighbours_is_disallowed : least_disallowed allowed.Complete entries ≡ Some assets
the_cell_of_the_neighbours_is_disallowed = refl

pub no_cell_is_disallowed : least_disallowed allowed.Consistent entries ≡ None
no_cell_is_disallowed = refl

-- both concepts have duplicates
pub the_least_of_two_disallowed_cells : least_disallowed allowed.Never
    ((codes "a", with cash Nil) ∷ (codes "b", with cash Nil) ∷ (codes "c", nil) ∷ (codes "d", nil) ∷ []) ≡ Some assets
the_least_of_two_disallowed_cells = refl
