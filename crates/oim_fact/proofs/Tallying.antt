-- The class of some facts by a tally of them: what all pairs are follows from the first fact and one interval.
use Rattle.std.proofs.Common.{◌≡◌, ◌∙◌, ap, sym, refl, ◌↔◌, Bool, true, false, cond, not, ◌&&◌, ◌++◌, ℤ, List, [], ◌∷◌, Option, None, Some, is_some, IfSome, arith}
use Rattle.std.specs.List.{list_all}
use Rattle.std.proofs.lemmas.Int.{ints}
use Rattle.std.proofs.lemmas.List.Folds.{list_all-append}
use Rattle.std.proofs.lemmas.Bool.{and_parts, and_from}
use Rattle.filing_model.specs.Oim.Facts.{Fact}
use Rattle.filing_model.specs.Oim.Intervals.{Interval, meets}
use Rattle.filing_model.specs.Oim.Duplicates.{every_pair, pair_of, value_pair, is_apart, is_complete, is_consistent, has_dims, class_of}
use Rattle.filing_model.specs.declared.duplicates.Class.TheVariants as class
use Rattle.filing_model.specs.declared.duplicates.Pair.{Pair}
use Rattle.filing_model.specs.declared.duplicates.Pair.TheVariants as pair
use Rattle.filing_model.proofs.Oim.DimensionSets.{dims_decides}
use Rattle.oim_fact.specs.declared.tally.Tally.{Tally}
use Rattle.oim_fact.specs.Tallies.{Describes, IsCommonPart, IsFilled, IsIn, IsInAll, interval_in, has_value_of, is_empty}
use Rattle.oim_fact.proofs.CommonNumbers.{IsInEach, number_in_common}
use Rattle.filing_model.proofs.Oim.MixedFacts.{have_same_dims, mixed_where_dims_differ, together as together_in_cell}
use Rattle.filing_model.proofs.Oim.EveryPair.{all_implied, pairs_implied, pairs_same, every_pair_with_the_first}
use Rattle.oim_fact.proofs.ValuePairs.{complete_with_one, interval_for, filled_for, consistent_meet, consistent_at, in_its_interval, number_with_number, complete_without_interval}

-- ---- pairs in one cell

same_dims_through : (f g h : Fact) → have_same_dims f g ≡ true → have_same_dims f h ≡ true → have_same_dims g h ≡ true
same_dims_through f g h p q = (dims_decides g.dims h.dims).1 (sym ((dims_decides f.dims g.dims).0 p) ∙ (dims_decides f.dims h.dims).0 q)

all_of_one_cell : (first : Fact) (others : List Fact) → every_pair have_same_dims (first ∷ others) ≡ list_all (has_dims first.dims) others
all_of_one_cell first others = every_pair_with_the_first have_same_dims same_dims_through first others

abbrev are_complete : Fact → Fact → Bool
are_complete f g = is_complete (value_pair f.value g.value)

abbrev are_consistent : Fact → Fact → Bool
are_consistent f g = is_consistent (value_pair f.value g.value)

-- what a test says of pairs is what it says of values
of_values : (test : Pair → Bool) (first : Fact) (others : List Fact) → list_all (has_dims first.dims) others ≡ true
    → every_pair (λ f g. test (pair_of f g)) (first ∷ others)
    ≡ every_pair (λ f g. test (value_pair f.value g.value)) (first ∷ others)
of_values test first others together =
    pairs_same have_same_dims (λ f g. test (pair_of f g)) (λ f g. test (value_pair f.value g.value))
    (λ f g same. ap (λ b. test (cond b (value_pair f.value g.value) pair.Apart)) same)
    (first ∷ others) (all_of_one_cell first others ∙ together)

every_complete : (first : Fact) (others : List Fact) → list_all (has_dims first.dims) others ≡ true
    → every_pair (λ f g. is_complete (pair_of f g)) (first ∷ others) ≡ list_all (has_value_of first) others
every_complete first others together =
    of_values is_complete first others together
    ∙ every_pair_with_the_first are_complete (λ f g h. complete_with_one f.value g.value h.value) first others

-- ---- numbers in common

all_consistent_with : (f : Fact) (facts : List Fact) (x : ℤ) → IsIn (interval_in f.value) x → IsInAll facts x
    → list_all (are_consistent f) facts ≡ true
all_consistent_with f [] x here rest = refl
all_consistent_with f (g ∷ facts) x here (next, rest) =
    and_from (are_consistent f g) (list_all (are_consistent f) facts) (consistent_at f.value g.value x here next)
    (all_consistent_with f facts x here rest)

consistent_in_all : (facts : List Fact) (x : ℤ) → IsInAll facts x → every_pair are_consistent facts ≡ true
consistent_in_all [] x numbers = refl
consistent_in_all (f ∷ facts) x (here, rest) =
    and_from (list_all (are_consistent f) facts) (every_pair are_consistent facts)
    (all_consistent_with f facts x here rest) (consistent_in_all facts x rest)

in_all : (first : Fact) (others : List Fact) (i : Interval) (x : ℤ) → interval_in first.value ≡ Some i
    → list_all (are_consistent first) others ≡ true → IsInEach (λ f. interval_for f.value) x others → IsInAll others x
in_all first [] i x number holds within = tt
in_all first (f ∷ others) i x number holds (here, rest) =
    let parts = and_parts (are_consistent first f) (list_all (are_consistent first) others) holds in
    (number_with_number first.value f.value i x number parts.0 here, in_all first others i x number parts.1 rest)

common_number : (first : Fact) (others : List Fact) → every_pair are_consistent (first ∷ others) ≡ true
    → (x : ℤ) × IsInEach (λ f. interval_for f.value) x (first ∷ others)
common_number first others consistent =
    number_in_common (λ (f : Fact). interval_for f.value) (λ f. filled_for f.value) first others
    (pairs_implied are_consistent (λ f g. meets (interval_for f.value) (interval_for g.value))
    (λ f g. consistent_meet f.value g.value) (first ∷ others) consistent)

-- pairs that are consistent and not all complete are of numbers, and one is in all intervals
in_common : (first : Fact) (others : List Fact) → every_pair are_consistent (first ∷ others) ≡ true
    → list_all (has_value_of first) others ≡ false → (x : ℤ) × IsInAll (first ∷ others) x
in_common first others consistent some =
    let parts = and_parts (list_all (are_consistent first) others) (every_pair are_consistent others) consistent in
    elim (interval_in first.value) as (λ o. interval_in first.value ≡ o → (x : ℤ) × IsInAll (first ∷ others) x) [
      | None ↦ λ none.
          let complete : list_all (has_value_of first) others ≡ true =
          all_implied (are_consistent first) (has_value_of first)
          (λ f e. sym (complete_without_interval first.value f.value none) ∙ e) others parts.0 in
          absurd (cc)
      | Some i ↦ λ number.
          let (x, (here, rest)) = common_number first others consistent in
          (x, (in_its_interval first.value i x number here, in_all first others i x number parts.0 rest))
    ] refl

-- ---- what a tally tells

consistent_where_shared : (first : Fact) (others : List Fact) (shared : Option Interval) → IfSome shared IsFilled
    → ((x : ℤ) → IsIn shared x ↔ IsInAll (first ∷ others) x) → list_all (has_value_of first) others ≡ false
    → every_pair are_consistent (first ∷ others) ≡ is_some shared
consistent_where_shared first others None filled same some =
    elim (every_pair are_consistent (first ∷ others)) as (λ b. every_pair are_consistent (first ∷ others) ≡ b → b ≡ false) [
      | true ↦ λ consistent. let (x, numbers) = in_common first others consistent some in absurd ((same x).1 numbers)
      | false ↦ λ e. refl
    ] refl
consistent_where_shared first others (Some i) filled same some =
    consistent_in_all (first ∷ others) i.low ((same i.low).0 (omega (arith, ints), filled))

class_of_more_if : (first second : Fact) (others : List Fact) (complete consistent together : Bool)
    → every_pair (λ f g. is_complete (pair_of f g)) (first ∷ second ∷ others) ≡ complete
    → every_pair (λ f g. is_consistent (pair_of f g)) (first ∷ second ∷ others) ≡ consistent
    → every_pair (λ f g. not (is_apart (pair_of f g))) (first ∷ second ∷ others) ≡ together
    → class_of (first ∷ second ∷ others)
    ≡ cond complete class.Complete (cond consistent class.Consistent (cond together class.Inconsistent class.Mixed))
class_of_more_if first second others complete consistent together p q r =
    λ i. cond (p i) class.Complete (cond (q i) class.Consistent (cond (r i) class.Inconsistent class.Mixed))

pub mixed : (t : Tally) (first : Fact) (others : List Fact) → Describes t first others → t.together ≡ false → class_of (first ∷ others) ≡ class.Mixed
mixed t first others told differ = mixed_where_dims_differ (first ∷ others) (all_of_one_cell first others ∙ sym told.together ∙ differ)

-- the class of several facts in one cell
in_one_cell : (t : Tally) (first : Fact) (others : List Fact) (complete consistent : Bool) → Describes t first others
    → t.alone ≡ false → t.together ≡ true → list_all (has_value_of first) others ≡ complete
    → every_pair are_consistent (first ∷ others) ≡ consistent
    → class_of (first ∷ others) ≡ cond complete class.Complete (cond consistent class.Consistent class.Inconsistent)
in_one_cell t first [] complete consistent told several together p q = absurd (let e = told.alone in cc)
in_one_cell t first (second ∷ others) complete consistent told several together p q =
    let same : list_all (has_dims first.dims) (second ∷ others) ≡ true = sym told.together ∙ together in
    class_of_more_if first second others complete consistent true
    (every_complete first (second ∷ others) same ∙ p)
    (of_values is_consistent first (second ∷ others) same ∙ q)
    (together_in_cell (first ∷ second ∷ others) (all_of_one_cell first (second ∷ others) ∙ same))

pub complete : (t : Tally) (first : Fact) (others : List Fact) → Describes t first others → t.alone ≡ false
    → t.together ≡ true → t.complete ≡ true → class_of (first ∷ others) ≡ class.Complete
complete t first others told several together all =
    in_one_cell t first others true (every_pair are_consistent (first ∷ others)) told several together
    (sym told.complete ∙ all) refl

-- by whether there is an interval that all share
pub shared_or_not : (t : Tally) (first : Fact) (others : List Fact) (shared : Bool) → Describes t first others
    → t.alone ≡ false → t.together ≡ true → t.complete ≡ false → is_some t.shared ≡ shared
    → class_of (first ∷ others) ≡ cond shared class.Consistent class.Inconsistent
shared_or_not t first others shared told several together some e =
    let differ : list_all (has_value_of first) others ≡ false = sym told.complete ∙ some in
    in_one_cell t first others false shared told several together differ
    (consistent_where_shared first others t.shared told.filled told.shared differ ∙ e)

-- ---- one more fact

and_true : (b : Bool) → (b && true) ≡ b
and_true true = refl
and_true false = refl

at_the_end : {A : Type 0} (test : A → Bool) (list : List A) (last : A) → list_all test (list ++ last ∷ []) ≡ (list_all test list && test last)
at_the_end test list last = list_all-append test list (last ∷ []) ∙ ap (λ b. list_all test list && b) (and_true (test last))

in_all_and_last : (facts : List Fact) (last : Fact) (x : ℤ) → IsInAll (facts ++ last ∷ []) x ↔ (IsInAll facts x × IsIn (interval_in last.value) x)
in_all_and_last [] last x = (λ (here, rest). (tt, here), λ (rest, here). (here, tt))
in_all_and_last (f ∷ facts) last x =
    let later = in_all_and_last facts last x in (
      λ (here, rest). ((here, (later.0 rest).0), (later.0 rest).1),
      λ ((here, rest), end). (here, later.1 (rest, end)),
    )

not_empty : {A : Type 0} (list : List A) (last : A) → is_empty (list ++ last ∷ []) ≡ false
not_empty [] last = refl
not_empty (a ∷ list) last = refl

pub one_more : (old new : Tally) (first fact : Fact) (others : List Fact) → new.alone ≡ false
    → new.together ≡ (old.together && has_dims first.dims fact)
    → new.complete ≡ (old.complete && has_value_of first fact)
    → IsCommonPart old.shared (interval_in fact.value) new.shared → Describes old first others
    → Describes new first (others ++ fact ∷ [])
one_more old new first fact others several together complete part told = record {
  alone = several ∙ sym (not_empty others fact);
  together = together ∙ ap (λ b. b && has_dims first.dims fact) told.together ∙ sym (at_the_end (has_dims first.dims) others fact);
  complete = complete ∙ ap (λ b. b && has_value_of first fact) told.complete ∙ sym (at_the_end (has_value_of first) others fact);
  filled = part.filled;
  shared = λ x.
      let last = in_all_and_last (first ∷ others) fact x in (
        λ here. let both = (part.numbers x).0 here in last.1 ((told.shared x).0 both.0, both.1),
        λ numbers. let both = last.0 numbers in (part.numbers x).1 ((told.shared x).1 both.0, both.1),
      );
}

-- a flag that was true takes the test's answer, and one that was false stays
pub flag_tested : (flag before test : Bool) → before ≡ true → flag ≡ test → flag ≡ (before && test)
flag_tested flag true test e f = f
flag_tested flag false test e f = absurd (cc)

pub flag_kept : (flag before test : Bool) → before ≡ false → flag ≡ before → flag ≡ (before && test)
flag_kept flag true test e f = absurd (cc)
flag_kept flag false test e f = f
