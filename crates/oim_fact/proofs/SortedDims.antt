-- Dimensions that were sorted: the set is the list itself, unless a test fails.
use Rattle.std.proofs.Common.{cond, not, None, Some, Result, Ok, Err, string_bytes, IsPermutation, ◌≡◌, ◌∙◌, ap}
use Rattle.std.proofs.Common.{sym, subst, refl, true, false, List, [], ◌∷◌, map, Option, Ordering, Less, Equal}
use Rattle.std.proofs.Common.{Greater, is_lt, IsSorted}
use Rattle.std.specs.Ordering.{ordering_then}
use Rattle.std.specs.List.{list_any}
use Rattle.std.specs.String.{string_cmp}
use Rattle.std.proofs.lemmas.List.Sorted.{IsPermutation-map}
use Rattle.filing_model.specs.Common.TextMap.{from_entries}
use Rattle.filing_model.specs.Common.Text.{has_repeats}
use Rattle.filing_model.specs.Oim.Dimensions.{Dims, dims_of, is_null_core, is_concept, is_long_dim}
use Rattle.filing_model.specs.declared.faults.DimFault.{DimFault}
use Rattle.filing_model.specs.declared.faults.DimFault.TheVariants.{NameTwice, NullCore, NoConcept, TooLong}
use Rattle.filing_model.proofs.Oim.DimensionSets.{dims_of-IsPermutation, judged}
use Rattle.filing_model.proofs.Common.MapsOfLists.{sorted_from_rises, from_entries-sorted}
use Rattle.oim_fact.specs.Texts.{text_view, names_in, NoneFalls, has_equal_neighbours}
use Rattle.oim_fact.specs.Dims.{dims_view, unless}
use Rattle.oim_fact.proofs.SortedTexts.{Rises-names, repeated_are_neighbours, NoneFalls-sorted}
use Rattle.oim_fact.proofs.ComparedDims.{Held, held_cmp}

-- the set by its tests, where the list itself is the set
pub dims_of_by_tests : (ds : Dims) → NoneFalls (names_in ds)
    → dims_of ds ≡ cond (has_equal_neighbours (names_in ds)) (Err NameTwice)
    (cond (list_any is_null_core ds) (Err NullCore)
    (cond (not (list_any is_concept ds)) (Err NoConcept) (cond (list_any is_long_dim ds) (Err TooLong) (Ok ds))))
dims_of_by_tests ds h =
    elim (has_repeats (names_in ds))
    as (λ b. has_repeats (names_in ds) ≡ b
    → cond b (Err NameTwice) (judged ds (from_entries ds).entries) ≡ cond b (Err NameTwice) (judged ds ds)) [
      | true ↦ λ _. refl
      | false ↦ λ once. ap (judged ds) (from_entries-sorted ds (sorted_from_rises ds (Rises-names ds h) once))
    ] refl
    ∙ ap (λ b. cond b (Err NameTwice) (judged ds ds)) (repeated_are_neighbours ds h)

first_is_not_less : (o p : Ordering) → is_lt (ordering_then o p) ≡ false → is_lt o ≡ false
first_is_not_less Less p h = h
first_is_not_less Equal p h = refl
first_is_not_less Greater p h = h

names_view : (ps : List Held) → map (λ p. string_bytes p.0) ps ≡ names_in (dims_view ps)
names_view [] = refl
names_view (p ∷ ps) = ap (λ ts. string_bytes p.0 ∷ ts) (names_view ps)

-- names that were sorted do not fall
pub NoneFalls-dims : (ps : List Held) → IsSorted held_cmp ps → NoneFalls (names_in (dims_view ps))
NoneFalls-dims ps h =
    subst NoneFalls (names_view ps)
    (NoneFalls-sorted (λ p. string_bytes p.0) (λ p q. is_lt (held_cmp p q))
    (λ p q. first_is_not_less (string_cmp p.0 q.0) _) ps h)

-- the set is that of the pairs before they were sorted
pub dims_of-moved : (ps qs : List Held) → IsPermutation ps qs → dims_of (dims_view qs) ≡ dims_of (dims_view ps)
dims_of-moved ps qs p = sym (dims_of-IsPermutation _ _ (IsPermutation-map (λ p. (string_bytes p.0, text_view p.1)) ps qs p))

-- a set that is given, and a fault
pub given : (fault : Option DimFault) (ds : Dims) (set : Result Dims DimFault) → unless fault ds ≡ set → fault ≡ None → Ok ds ≡ set
given fault ds set h e = ap (λ f. unless f ds) (sym e) ∙ h

pub refused : (fault : Option DimFault) (f : DimFault) (ds : Dims) (set : Result Dims DimFault) → unless fault ds ≡ set → fault ≡ Some f → Err f ≡ set
refused fault f ds set h e = ap (λ f. unless f ds) (sym e) ∙ h
