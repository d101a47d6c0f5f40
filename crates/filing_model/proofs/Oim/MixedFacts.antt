-- Facts are mixed exactly where not every two have the same dimensions.
use Rattle.std.proofs.Common.{◌≡◌, ◌≢◌, Bool, true, false, not, cond, List, [], ◌∷◌, refl, ap, sym, ◌∙◌}
use Rattle.filing_model.specs.Oim.Facts.{Fact}
use Rattle.filing_model.specs.Oim.Duplicates.{every_pair, pair_of, value_pair, is_apart, is_complete, is_consistent, has_dims, class_of, MixedWhereDimensionsDiffer}
use Rattle.filing_model.specs.declared.duplicates.Class.TheVariants as class
use Rattle.filing_model.specs.declared.duplicates.Pair.{Pair}
use Rattle.filing_model.specs.declared.duplicates.Pair.TheVariants as pair
use Rattle.filing_model.proofs.Oim.DimensionSets.{dims_decides}
use Rattle.filing_model.proofs.Oim.DisallowedCells.{values_are_not_apart}
use Rattle.filing_model.proofs.Oim.EveryPair.{pairs_implied, every_pair_decides}

abbrev pub have_same_dims : Fact → Fact → Bool
have_same_dims f g = has_dims f.dims g

-- a test that no pair apart passes is passed by every pair only where all have the same dimensions
needs_same_dims : (test : Pair → Bool) → test pair.Apart ≡ false → (facts : List Fact) → every_pair (λ f g. test (pair_of f g)) facts ≡ true → every_pair have_same_dims facts ≡ true
needs_same_dims test apart facts passed =
    pairs_implied (λ f g. test (pair_of f g)) have_same_dims
    (λ f g. elim (have_same_dims f g) as (λ b. test (cond b (value_pair f.value g.value) pair.Apart) ≡ true → b ≡ true) [ true ↦ λ e. refl | false ↦ λ e. absurd (cc) ])
    facts passed

fails : (test : Pair → Bool) → test pair.Apart ≡ false → (facts : List Fact) → every_pair have_same_dims facts ≡ false → every_pair (λ f g. test (pair_of f g)) facts ≡ false
fails test apart facts differ =
    elim (every_pair (λ f g. test (pair_of f g)) facts) as (λ b. every_pair (λ f g. test (pair_of f g)) facts ≡ b → b ≡ false) [
      | true ↦ λ passed. let same = needs_same_dims test apart facts passed in absurd (cc)
      | false ↦ λ e. refl
    ] refl

pub mixed_where_dims_differ : (facts : List Fact) → every_pair have_same_dims facts ≡ false → class_of facts ≡ class.Mixed
mixed_where_dims_differ [] differ = absurd (cc)
mixed_where_dims_differ (f ∷ []) differ = absurd (cc)
mixed_where_dims_differ (f ∷ g ∷ facts) differ =
    let all = f ∷ g ∷ facts in
    λ i. cond (fails is_complete refl all differ i) class.Complete
    (cond (fails is_consistent refl all differ i) class.Consistent
    (cond (fails (λ p. not (is_apart p)) refl all differ i) class.Inconsistent class.Mixed))

not_mixed : (complete consistent : Bool) → cond complete class.Complete (cond consistent class.Consistent class.Inconsistent) ≢ class.Mixed
not_mixed true consistent = λ e. cc
not_mixed false true = λ e. cc
not_mixed false false = λ e. cc

pub together : (facts : List Fact) → every_pair have_same_dims facts ≡ true → every_pair (λ f g. not (is_apart (pair_of f g))) facts ≡ true
together facts same =
    pairs_implied have_same_dims (λ f g. not (is_apart (pair_of f g)))
    (λ f g e. ap (λ b. not (is_apart (cond b (value_pair f.value g.value) pair.Apart))) e ∙ ap not (values_are_not_apart f.value g.value))
    facts same

not_mixed_in_one_cell : (facts : List Fact) → every_pair have_same_dims facts ≡ true → class_of facts ≢ class.Mixed
not_mixed_in_one_cell [] same = λ e. cc
not_mixed_in_one_cell (f ∷ []) same = λ e. cc
not_mixed_in_one_cell (f ∷ g ∷ facts) same =
    let all = f ∷ g ∷ facts in
    let complete = every_pair (λ f g. is_complete (pair_of f g)) all in
    let consistent = every_pair (λ f g. is_consistent (pair_of f g)) all in
    λ e. not_mixed complete consistent (sym (ap (λ b. cond complete class.Complete (cond consistent class.Consistent (cond b class.Inconsistent class.Mixed))) (together all same)) ∙ e)

pub mixed_where_dimensions_differ : MixedWhereDimensionsDiffer
mixed_where_dimensions_differ facts =
    let decides = every_pair_decides have_same_dims (λ (f g : Fact). f.dims ≡ g.dims) (λ f g. dims_decides f.dims g.dims) facts in (
      λ mixed same. not_mixed_in_one_cell facts (decides.1 same) mixed,
      λ differ.
          elim (every_pair have_same_dims facts) as (λ b. every_pair have_same_dims facts ≡ b → class_of facts ≡ class.Mixed) [
            | true ↦ λ same. absurd (differ (decides.0 same))
            | false ↦ λ e. mixed_where_dims_differ facts e
          ] refl,
    )
