-- Proof that a report obeys its allowed duplicates exactly where it has no disallowed cell.
use Rattle.std.proofs.Common.{◌≡◌, Bool, true, false, not, cond, ◌&&◌, List, [], ◌∷◌, map, Some, None, fold, refl, ap, sym, ◌∙◌}
use Rattle.std.proofs.lemmas.Bool.{and_parts, and_from}
use Rattle.std.specs.Cmp.{Equal-is}
use Rattle.std.specs.Ordering.{is_eq, ord_min}
use Rattle.std.specs.List.{list_all, filter}
use Rattle.filing_model.specs.Common.Text.{text_eq}
use Rattle.filing_model.specs.Oim.Dimensions.{Dims, dims_cmp, dims_eq}
use Rattle.filing_model.specs.Oim.Facts.{Fact, FactValue, Nil, Written, Number}
use Rattle.filing_model.specs.Oim.Duplicates.{value_pair, pair_of, is_apart, every_pair, class_of, allows, permits}
use Rattle.filing_model.specs.Oim.Duplicates.{facts_of, has_dims, is_disallowed, lesser_dims, least_dims}
use Rattle.filing_model.specs.Oim.Duplicates.{ObeysWhereNoCellIsDisallowed}
use Rattle.filing_model.specs.declared.duplicates.Allowed.{Allowed}
use Rattle.filing_model.specs.declared.duplicates.Allowed.TheVariants as allowed
use Rattle.filing_model.specs.declared.duplicates.Pair.TheVariants as pair
use Rattle.filing_model.proofs.Oim.EveryPair.{all_implied, pairs_filter, all_always}
use Rattle.filing_model.proofs.Oim.DimensionSets.{dims_cmp-total, dims_eq-refl}
use Rattle.filing_model.proofs.Oim.AllowedClasses.{allows-class_by}

-- ---- dimensions

same_dims : (d e f : Dims) → dims_eq d e ≡ true → dims_eq d f ≡ true → dims_eq e f ≡ true
same_dims d e f p q = ap is_eq (sym (dims_cmp-total.congr d e f ((Equal-is (dims_cmp d e)).0 p)) ∙ (Equal-is (dims_cmp d f)).0 q)

-- ---- lists

module _ {A : Type 0} where
  list_all_same : (p q : A → Bool) → ((x : A) → p x ≡ q x) → (xs : List A) → list_all p xs ≡ list_all q xs
  list_all_same p q same [] = refl
  list_all_same p q same (x ∷ xs) = ap (λ b. b && list_all p xs) (same x) ∙ ap (λ b. q x && b) (list_all_same p q same xs)

  -- a list none of whose elements is kept
  none_kept : (q : A → Bool) (xs : List A) → list_all (λ x. not (q x)) xs ≡ true → filter q xs ≡ []
  none_kept q [] e = refl
  none_kept q (x ∷ xs) e =
      let t = and_parts (not (q x)) (list_all (λ x. not (q x)) xs) e in
      (elim (q x) as (λ b. not b ≡ true → cond b (x ∷ filter q xs) (filter q xs) ≡ filter q xs) [ true ↦ (λ h. absurd (cc)) | false ↦ (λ h. refl) ]) t.0 ∙ none_kept q xs t.1

-- ---- the facts of a cell are not apart

of_numbers : (b c : Bool) → is_apart (cond b pair.Complete (cond c pair.Consistent pair.Inconsistent)) ≡ false
of_numbers true c = refl
of_numbers false true = refl
of_numbers false false = refl

of_texts : (b : Bool) → is_apart (cond b pair.Complete pair.Inconsistent) ≡ false
of_texts true = refl
of_texts false = refl

pub values_are_not_apart : (v w : FactValue) → is_apart (value_pair v w) ≡ false
values_are_not_apart Nil Nil = refl
values_are_not_apart Nil (Written t) = refl
values_are_not_apart Nil (Number t m e) = refl
values_are_not_apart (Written s) Nil = refl
values_are_not_apart (Written s) (Written t) = of_texts (text_eq s t)
values_are_not_apart (Written s) (Number t m e) = refl
values_are_not_apart (Number s n d) Nil = refl
values_are_not_apart (Number s n d) (Written t) = refl
values_are_not_apart (Number s n d) (Number t m e) = of_numbers _ _

together : Fact → Fact → Bool
together f g = not (is_apart (pair_of f g))

are_together : (f g : Fact) → dims_eq f.dims g.dims ≡ true → together f g ≡ true
unfolding together
are_together f g e = ap (λ b. not (is_apart (cond b (value_pair f.value g.value) pair.Apart))) e ∙ ap not (values_are_not_apart f.value g.value)

one_is_together : (d : Dims) (f : Fact) (facts : List Fact) → dims_eq d f.dims ≡ true → list_all (together f) (filter (has_dims d) facts) ≡ true
one_is_together d f [] e = refl
one_is_together d f (g ∷ facts) e =
    let rest = one_is_together d f facts e in
    elim (dims_eq d g.dims) as (λ b. dims_eq d g.dims ≡ b → list_all (together f) (cond b (g ∷ filter (has_dims d) facts) (filter (has_dims d) facts)) ≡ true) [
      | true ↦ (λ k. and_from (together f g) (list_all (together f) (filter (has_dims d) facts)) (are_together f g (same_dims d f.dims g.dims e k)) rest)
      | false ↦ (λ k. rest)
    ] refl

cell_is_together : (d : Dims) (facts : List Fact) → every_pair together (filter (has_dims d) facts) ≡ true
cell_is_together d [] = refl
cell_is_together d (f ∷ facts) =
    let rest = cell_is_together d facts in
    elim (dims_eq d f.dims) as (λ b. dims_eq d f.dims ≡ b → every_pair together (cond b (f ∷ filter (has_dims d) facts) (filter (has_dims d) facts)) ≡ true) [
      | true ↦ (λ e. and_from (list_all (together f) (filter (has_dims d) facts)) (every_pair together (filter (has_dims d) facts)) (one_is_together d f facts e) rest)
      | false ↦ (λ e. rest)
    ] refl

-- ---- a cell is allowed where its pairs are permitted

permitted : Allowed → Fact → Fact → Bool
permitted a f g = permits a (pair_of f g)

pub allows-cell : (a : Allowed) (dims : Dims) (facts : List Fact) → allows a (class_of (filter (has_dims dims) facts)) ≡ every_pair (λ f g. permits a (pair_of f g)) (filter (has_dims dims) facts)
unfolding together
allows-cell a dims facts = allows-class_by pair_of a (filter (has_dims dims) facts) (cell_is_together dims facts)

-- ---- all pairs of a report, cell by cell

within_cell : (Fact → Fact → Bool) → List Fact → Dims → Bool
within_cell test facts d = every_pair test (filter (has_dims d) facts)

-- a test that holds of facts with other dimensions
others_pass : (test : Fact → Fact → Bool) → ((f g : Fact) → dims_eq f.dims g.dims ≡ false → test f g ≡ true) → (f : Fact) (facts : List Fact)
    → list_all (test f) (filter (has_dims f.dims) facts) ≡ true → list_all (test f) facts ≡ true
others_pass test other f [] e = refl
others_pass test other f (g ∷ facts) e =
    (elim (dims_eq f.dims g.dims) as (λ b. dims_eq f.dims g.dims ≡ b
    → list_all (test f) (cond b (g ∷ filter (has_dims f.dims) facts) (filter (has_dims f.dims) facts)) ≡ true
    → (test f g && list_all (test f) facts) ≡ true) [
      | true ↦ (λ k h. let t = and_parts (test f g) (list_all (test f) (filter (has_dims f.dims) facts)) h in and_from (test f g) (list_all (test f) facts) t.0 (others_pass test other f facts t.1))
      | false ↦ (λ k h. and_from (test f g) (list_all (test f) facts) (other f g k) (others_pass test other f facts h))
    ]) refl e

behind : (test : Fact → Fact → Bool) (f : Fact) (facts : List Fact) (d : Dims) → within_cell test (f ∷ facts) d ≡ true → within_cell test facts d ≡ true
unfolding within_cell
behind test f facts d e =
    (elim (dims_eq d f.dims) as (λ b. every_pair test (cond b (f ∷ filter (has_dims d) facts) (filter (has_dims d) facts)) ≡ true → every_pair test (filter (has_dims d) facts) ≡ true) [
      | true ↦ (λ h. (and_parts (list_all (test f) (filter (has_dims d) facts)) (every_pair test (filter (has_dims d) facts)) h).1)
      | false ↦ (λ h. h)
    ]) e

from_cells : (test : Fact → Fact → Bool) → ((f g : Fact) → dims_eq f.dims g.dims ≡ false → test f g ≡ true) → (facts : List Fact)
    → list_all (within_cell test facts) (map (λ f. f.dims) facts) ≡ true → every_pair test facts ≡ true
unfolding within_cell
from_cells test other [] e = refl
from_cells test other (f ∷ facts) e =
    let t = and_parts (within_cell test (f ∷ facts) f.dims) (list_all (within_cell test (f ∷ facts)) (map (λ f. f.dims) facts)) e in
    let cell : every_pair test (f ∷ filter (has_dims f.dims) facts)
    ≡ true = sym (ap (λ b. every_pair test
    (cond b (f ∷ filter (has_dims f.dims) facts) (filter (has_dims f.dims) facts))) (dims_eq-refl f.dims))
    ∙ t.0 in
    let first = (and_parts (list_all (test f) (filter (has_dims f.dims) facts)) (every_pair test (filter (has_dims f.dims) facts)) cell).0 in
    and_from (list_all (test f) facts) (every_pair test facts)
    (others_pass test other f facts first)
    (from_cells test other facts (all_implied (within_cell test (f ∷ facts)) (within_cell test facts) (behind test f facts) (map (λ f. f.dims) facts) t.1))

to_cells : (test : Fact → Fact → Bool) (facts : List Fact) (dims : List Dims) → every_pair test facts ≡ true → list_all (within_cell test facts) dims ≡ true
unfolding within_cell
to_cells test facts [] e = refl
to_cells test facts (d ∷ dims) e = and_from (within_cell test facts d) (list_all (within_cell test facts) dims) (pairs_filter test (has_dims d) facts e) (to_cells test facts dims e)

pub apart_is_permitted : (a : Allowed) → permits a pair.Apart ≡ true
apart_is_permitted allowed.Never = refl
apart_is_permitted allowed.Complete = refl
apart_is_permitted allowed.Consistent = refl
apart_is_permitted allowed.All = refl

others_are_permitted : (a : Allowed) (f g : Fact) → dims_eq f.dims g.dims ≡ false → permitted a f g ≡ true
unfolding permitted
others_are_permitted a f g e = ap (λ b. permits a (cond b (value_pair f.value g.value) pair.Apart)) e ∙ apart_is_permitted a

-- facts are permitted beside one another where those of each cell are
pub permitted_by_cells : (a : Allowed) (facts : List Fact)
    → ((dims : Dims) → every_pair (λ f g. permits a (pair_of f g)) (filter (has_dims dims) facts) ≡ true)
    → every_pair (λ f g. permits a (pair_of f g)) facts ≡ true
unfolding within_cell permitted
permitted_by_cells a facts each = from_cells (permitted a) (others_are_permitted a) facts (all_always (within_cell (permitted a) facts) each (map (λ f. f.dims) facts))

twice : (b : Bool) → not (not b) ≡ b
twice true = refl
twice false = refl

cells : (a : Allowed) (facts : List Fact) (dims : List Dims) → list_all (λ d. not (is_disallowed a facts d)) dims ≡ list_all (within_cell (permitted a) facts) dims
unfolding within_cell permitted
cells a facts dims = list_all_same (λ d. not (is_disallowed a facts d)) (within_cell (permitted a) facts) (λ d. twice (allows a (class_of (filter (has_dims d) facts))) ∙ allows-cell a d facts) dims

-- ---- the least disallowed cell

some_least : (dims : List Dims) (least : Dims) → (d : Dims) × (fold lesser_dims (Some least) dims ≡ Some d)
some_least [] least = (least, refl)
some_least (d ∷ dims) least = some_least dims (ord_min dims_cmp least d)

least_of_none : (q : Dims → Bool) (dims : List Dims) → list_all (λ d. not (q d)) dims ≡ true → least_dims (filter q dims) ≡ None
least_of_none q dims e = ap (λ l. least_dims l) (none_kept q dims e)

none_from_least : (q : Dims → Bool) (dims : List Dims) → least_dims (filter q dims) ≡ None → list_all (λ d. not (q d)) dims ≡ true
none_from_least q [] e = refl
none_from_least q (d ∷ dims) e =
    (elim (q d) as (λ b. least_dims (cond b (d ∷ filter q dims) (filter q dims)) ≡ None → (not b && list_all (λ d. not (q d)) dims) ≡ true) [
      | true ↦ (λ h. let some = some_least (filter q dims) d in let found : Some some.0 ≡ None = sym some.1 ∙ h in absurd (cc))
      | false ↦ (λ h. none_from_least q dims h)
    ]) e

pub obeys_where_no_cell_is_disallowed : ObeysWhereNoCellIsDisallowed
unfolding permitted
obeys_where_no_cell_is_disallowed a entries =
    let facts = facts_of entries in
    let dims = map (λ f. f.dims) facts in (
      λ obeyed. least_of_none (is_disallowed a facts) dims (cells a facts dims ∙ to_cells (permitted a) facts dims obeyed),
      λ none. from_cells (permitted a) (others_are_permitted a) facts (sym (cells a facts dims) ∙ none_from_least (is_disallowed a facts) dims none),
    )
