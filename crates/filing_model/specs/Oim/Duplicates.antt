-- Duplicate facts (Open Information Model 1.0, `xbrl:allowedDuplicates`). Which pairs are complete, consistent or inconsistent is the project's own.
use Rattle.std.specs.Prelude.{◌≡◌, ◌↔◌, IsTrue, Bool, true, false, cond, not, ◌&&◌, ◌||◌, List, [], ◌∷◌, map, ℤ, Option, Some, None}
use Rattle.std.specs.List.{list_all, filter, fold, AllPairs}
use Rattle.std.specs.Option.{option_eq}
use Rattle.std.specs.Ordering.{int_eq, ord_min}
use Rattle.filing_model.specs.Common.Text.{Text, text_eq}
use Rattle.filing_model.specs.Oim.Dimensions.{Dims, dims_cmp, dims_eq}
use Rattle.filing_model.specs.Oim.Facts.{Fact, FactValue, Nil, Written, Number}
use Rattle.filing_model.specs.Oim.Intervals.{interval_of, meets}
use Rattle.filing_model.specs.declared.duplicates.Allowed.{Allowed}
use Rattle.filing_model.specs.declared.duplicates.Allowed.TheVariants as allowed
use Rattle.filing_model.specs.declared.duplicates.Class.{Class}
use Rattle.filing_model.specs.declared.duplicates.Class.TheVariants as class
use Rattle.filing_model.specs.declared.duplicates.Pair.{Pair}
use Rattle.filing_model.specs.declared.duplicates.Pair.TheVariants as pair

-- ---- pairs

-- equal numbers with the same decimals are complete, others consistent where their intervals share a number
abbrev pub number_pair : ℤ → Option ℤ → ℤ → Option ℤ → Pair
number_pair n d m e = cond (int_eq n m && option_eq int_eq d e) pair.Complete
    (cond (meets (interval_of n d) (interval_of m e)) pair.Consistent pair.Inconsistent)

abbrev pub value_pair : FactValue → FactValue → Pair
value_pair Nil Nil = pair.Complete
value_pair (Written s) (Written t) = cond (text_eq s t) pair.Complete pair.Inconsistent
value_pair (Number s n d) (Number t m e) = number_pair n d m e
value_pair v w = pair.Inconsistent

-- what two facts are to one another; the text of a number does not count
abbrev pub pair_of : Fact → Fact → Pair
pair_of f g = cond (dims_eq f.dims g.dims) (value_pair f.value g.value) pair.Apart

abbrev pub is_apart : Pair → Bool
is_apart pair.Apart = true
is_apart p = false

abbrev pub is_complete : Pair → Bool
is_complete pair.Complete = true
is_complete p = false

-- a complete pair is consistent too
abbrev pub is_consistent : Pair → Bool
is_consistent pair.Complete = true
is_consistent pair.Consistent = true
is_consistent p = false

-- ---- classes

-- whether a test holds of each element and each later one
abbrev pub every_pair : {A : Type 0} → (A → A → Bool) → List A → Bool
every_pair test [] = true
every_pair test (x ∷ xs) = list_all (test x) xs && every_pair test xs

abbrev pub class_of_more : {A : Type 0} → (A → A → Pair) → List A → Class
class_of_more pairing xs =
    cond (every_pair (λ x y. is_complete (pairing x y)) xs) class.Complete
    (cond (every_pair (λ x y. is_consistent (pairing x y)) xs) class.Consistent
    (cond (every_pair (λ x y. not (is_apart (pairing x y))) xs) class.Inconsistent class.Mixed))

-- the class by all pairs
abbrev pub class_by : {A : Type 0} → (A → A → Pair) → List A → Class
class_by pairing [] = class.Empty
class_by pairing (x ∷ []) = class.Single
class_by pairing (x ∷ y ∷ xs) = class_of_more pairing (x ∷ y ∷ xs)

abbrev pub class_of : List Fact → Class
class_of facts = class_by pair_of facts

-- ---- allowed duplicates

-- whether a cell of this class may stand in a report
abbrev pub allows : Allowed → Class → Bool
allows a class.Mixed = false
allows allowed.All c = true
allows a class.Empty = true
allows a class.Single = true
allows allowed.Complete class.Complete = true
allows allowed.Consistent class.Complete = true
allows allowed.Consistent class.Consistent = true
allows a c = false

-- whether two facts of one report may be such a pair
abbrev pub permits : Allowed → Pair → Bool
permits allowed.All p = true
permits allowed.Never p = is_apart p
permits allowed.Complete p = is_apart p || is_complete p
permits allowed.Consistent p = is_apart p || is_consistent p

-- the facts of a report without their identifiers
abbrev pub facts_of : List (Text × Fact) → List Fact
facts_of entries = map (λ e. e.1) entries

-- whether every two facts of a report are a pair that it permits
abbrev pub obeys : Allowed → List (Text × Fact) → Bool
obeys a entries = every_pair (λ f g. permits a (pair_of f g)) (facts_of entries)

-- ---- cells

abbrev pub has_dims : Dims → Fact → Bool
has_dims dims fact = dims_eq dims fact.dims

-- the entries of a report whose facts have these dimensions
abbrev pub cell_of : Dims → List (Text × Fact) → List (Text × Fact)
cell_of dims entries = filter (λ e. has_dims dims e.1) entries

-- whether the facts with these dimensions are more than a report may have
abbrev pub is_disallowed : Allowed → List Fact → Dims → Bool
is_disallowed a facts dims = not (allows a (class_of (filter (has_dims dims) facts)))

-- the dimensions of each fact that stands in a cell which is not allowed
abbrev pub disallowed_dims : Allowed → List Fact → List Dims
disallowed_dims a facts = filter (is_disallowed a facts) (map (λ f. f.dims) facts)

abbrev pub lesser_dims : Option Dims → Dims → Option Dims
lesser_dims None dims = Some dims
lesser_dims (Some least) dims = Some (ord_min dims_cmp least dims)

abbrev pub least_dims : List Dims → Option Dims
least_dims dims = fold lesser_dims None dims

-- the least dimensions of a report's facts whose cell is not allowed
abbrev pub least_disallowed : Allowed → List (Text × Fact) → Option Dims
least_disallowed a entries = least_dims (disallowed_dims a (facts_of entries))

-- ---- laws

abbrev pub ObeysWhereNoCellIsDisallowed : Type 0
ObeysWhereNoCellIsDisallowed = (a : Allowed) (entries : List (Text × Fact))
    → IsTrue (obeys a entries) ↔ (least_disallowed a entries ≡ None)

-- facts are mixed exactly where not every two have the same dimensions
abbrev pub MixedWhereDimensionsDiffer : Type 0
MixedWhereDimensionsDiffer = (facts : List Fact)
    → (class_of facts ≡ class.Mixed) ↔ (¬ AllPairs (λ f g. f.dims ≡ g.dims) facts)
