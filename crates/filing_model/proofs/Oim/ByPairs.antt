-- Lemmas of the slow functions that compare facts pair by pair.
use Rattle.std.proofs.Common.{◌≡◌, suc, ◌-◌, ◌≤◌, Bool, true, false, not, cond, ◌&&◌, ◌||◌, List, [], ◌∷◌, map}
use Rattle.std.proofs.Common.{length, take, drop, get_or, refl, ap, sym, ◌∙◌, arith, ◌≢◌, count_by, ℕ, ◌+◌, ◌<◌}
use Rattle.std.proofs.Common.{Option, fold, add-one}
use Rattle.std.proofs.lemmas.List.{take_rest, drop_all, length-map}
use Rattle.std.proofs.Math.Seq.{drop-cons}
use Rattle.std.proofs.lemmas.List.Sums.{length-filter}
use Rattle.std.specs.List.{list_all, filter, position, position_or_len}
use Rattle.filing_model.specs.Oim.Duplicates.{every_pair, class_by, class_of_more, lesser_dims}
use Rattle.filing_model.specs.Oim.Dimensions.{Dims}
use Rattle.filing_model.specs.Oim.Facts.{Fact}
use Rattle.filing_model.specs.declared.duplicates.Class.TheVariants as class
use Rattle.filing_model.specs.declared.duplicates.Pair.{Pair}

-- a list that is not empty is its first element and the rest
pub first_and_rest : {X : Type 0} (xs : List X) (first : X) → 1 ≤ length xs → first ≡ get_or xs 0 first → xs ≡ first ∷ take (length xs - 1) (drop 1 xs)
first_and_rest [] first some e = absurd (omega arith)
first_and_rest (x ∷ xs) first some e = let rest : take (length (x ∷ xs) - 1) (drop 1 (x ∷ xs)) ≡ xs = take_rest (x ∷ xs) 1 in cc

module _ {X Y : Type 0} (kept : Y → Bool) (view : X → Y) where
  -- a test of the elements that are kept
  pub list_all_kept : (test : Y → Bool) (xs : List X) → list_all (λ x. not (kept (view x)) || test (view x)) xs ≡ list_all test (filter kept (map view xs))
  list_all_kept test [] = refl
  list_all_kept test (x ∷ xs) =
      elim (kept (view x)) as (λ b. ((not b || test (view x))
      && list_all (λ x. not (kept (view x)) || test (view x)) xs)
      ≡ list_all test (cond b (view x ∷ filter kept (map view xs)) (filter kept (map view xs)))) [
        | true ↦ ap (λ b. test (view x) && b) (list_all_kept test xs)
        | false ↦ list_all_kept test xs
      ]

  -- what is asked of the first element of a list, whether it is kept or not
  pub front : (test : Y → Y → Bool) (first : X) (rest : List X)
      → every_pair test (filter kept (map view (first ∷ rest)))
      ≡ ((not (kept (view first)) || list_all (λ x. not (kept (view x)) || test (view first) (view x)) rest)
      && every_pair test (filter kept (map view rest)))
  front test first rest =
      elim (kept (view first)) as
      (λ b. every_pair test (cond b (view first ∷ filter kept (map view rest)) (filter kept (map view rest)))
      ≡ ((not b || list_all (λ x. not (kept (view x)) || test (view first) (view x)) rest)
      && every_pair test (filter kept (map view rest)))) [
        | true ↦ ap (λ b. b && every_pair test (filter kept (map view rest))) (sym (list_all_kept (test (view first)) rest))
        | false ↦ refl
      ]

  -- one turn of a walk down the list
  turn : (test : Y → Y → Bool) (xs : List X) (first : X) (passed : Bool) → 1 ≤ length xs → first ≡ get_or xs 0 first
      → passed ≡ (not (kept (view first)) || list_all (λ x. not (kept (view x)) || test (view first) (view x)) (take (length xs - 1) (drop 1 xs)))
      → every_pair test (filter kept (map view xs)) ≡ (passed && every_pair test (filter kept (map view (take (length xs - 1) (drop 1 xs)))))
  turn test xs first passed some e p =
      ap (λ ys. every_pair test (filter kept (map view ys))) (first_and_rest xs first some e)
      ∙ front test first (take (length xs - 1) (drop 1 xs))
      ∙ ap (λ b. b && every_pair test (filter kept (map view (take (length xs - 1) (drop 1 xs))))) (sym p)

  pub turn_passes : (test : Y → Y → Bool) (xs : List X) (first : X) (passed : Bool) → 1 ≤ length xs → first ≡ get_or xs 0 first
      → passed ≡ (not (kept (view first)) || list_all (λ x. not (kept (view x)) || test (view first) (view x)) (take (length xs - 1) (drop 1 xs)))
      → passed ≡ true → every_pair test (filter kept (map view xs)) ≡ every_pair test (filter kept (map view (take (length xs - 1) (drop 1 xs))))
  turn_passes test xs first passed some e p passes = turn test xs first passed some e p ∙ ap (λ b. b && every_pair test (filter kept (map view (take (length xs - 1) (drop 1 xs))))) passes

  pub turn_fails : (test : Y → Y → Bool) (xs : List X) (first : X) (passed : Bool) → 1 ≤ length xs → first ≡ get_or xs 0 first
      → passed ≡ (not (kept (view first)) || list_all (λ x. not (kept (view x)) || test (view first) (view x)) (take (length xs - 1) (drop 1 xs)))
      → passed ≡ false → every_pair test (filter kept (map view xs)) ≡ false
  turn_fails test xs first passed some e p fails = turn test xs first passed some e p ∙ ap (λ b. b && every_pair test (filter kept (map view (take (length xs - 1) (drop 1 xs))))) fails

  same_length : (xs : List X) → length (filter (λ x. kept (view x)) xs) ≡ length (filter kept (map view xs))
  same_length [] = refl
  same_length (x ∷ xs) =
      elim (kept (view x)) as (λ b. length
      (cond b (x ∷ filter (λ x. kept (view x)) xs) (filter (λ x. kept (view x)) xs))
      ≡ length (cond b (view x ∷ filter kept (map view xs)) (filter kept (map view xs)))) [
        | true ↦ ap (λ n. suc n) (same_length xs)
        | false ↦ same_length xs
      ]

  pub count_kept : (xs : List X) → count_by (λ x. kept (view x)) xs ≡ length (filter kept (map view xs))
  count_kept xs = sym (length-filter (λ x. kept (view x)) xs) ∙ same_length xs

-- the class by the number of elements
pub class_of_none : {A : Type 0} (pairing : A → A → Pair) (xs : List A) → length xs ≡ 0 → class_by pairing xs ≡ class.Empty
class_of_none pairing [] e = refl
class_of_none pairing (x ∷ xs) e = absurd (omega arith)

pub class_of_one : {A : Type 0} (pairing : A → A → Pair) (xs : List A) → length xs ≡ 1 → class_by pairing xs ≡ class.Single
class_of_one pairing [] e = absurd (omega arith)
class_of_one pairing (x ∷ []) e = refl
class_of_one pairing (x ∷ y ∷ xs) e = absurd (omega arith)

pub class_of_many : {A : Type 0} (pairing : A → A → Pair) (xs : List A) → length xs ≢ 0 → length xs ≢ 1 → class_by pairing xs ≡ class_of_more pairing xs
class_of_many pairing [] none one = absurd (none refl)
class_of_many pairing (x ∷ []) none one = absurd (one refl)
class_of_many pairing (x ∷ y ∷ xs) none one = refl

pub all_are_kept : {A : Type 0} (xs : List A) → filter (λ x. true) xs ≡ xs
all_are_kept [] = refl
all_are_kept (x ∷ xs) = ap (λ ys. x ∷ ys) (all_are_kept xs)

kept_or_not : {A B : Type 0} (b : Bool) (f : B → A → B) (z : B) (x : A) (xs : List A) → fold f z (cond b (x ∷ xs) xs) ≡ fold f (cond b (f z x) z) xs
kept_or_not true f z x xs = refl
kept_or_not false f z x xs = refl

-- one turn of a search for the least dimensions
pub least_turn : {X : Type 0} (view : X → Fact) (test : Dims → Bool) (least next : Option Dims) (xs : List X) (i : ℕ) (x : X) (total : Option Dims)
    → i < length xs → x ≡ get_or xs i x → next ≡ cond (test (view x).dims) (lesser_dims least (view x).dims) least
    → fold lesser_dims least (filter test (map (λ f. f.dims) (map view (drop i xs)))) ≡ total
    → fold lesser_dims next (filter test (map (λ f. f.dims) (map view (drop (i + 1) xs)))) ≡ total
least_turn view test least next xs i x total below e step so_far =
    let cut : drop i xs ≡ x ∷ drop (i + 1) xs = rw add-one (drop-cons xs i x below ∙ ap (λ y. y ∷ drop (suc i) xs) (sym e)) in
    let later = filter test (map (λ f. f.dims) (map view (drop (i + 1) xs))) in
    ap (λ o. fold lesser_dims o later) step
    ∙ sym (ap (λ ys. fold lesser_dims least (filter test (map (λ f. f.dims) (map view ys)))) cut ∙ kept_or_not (test (view x).dims) lesser_dims least (view x).dims later)
    ∙ so_far

pub least_end : {X : Type 0} (view : X → Fact) (test : Dims → Bool) (least : Option Dims) (xs : List X) (i : ℕ) → length xs ≤ i
    → fold lesser_dims least (filter test (map (λ f. f.dims) (map view (drop i xs)))) ≡ least
least_end view test least xs i past = ap (λ ys. fold lesser_dims least (filter test (map (λ f. f.dims) (map view ys)))) (drop_all i xs past)

same_prefix : {X Y : Type 0} (test : Y → Bool) (view : X → Y) (xs : List X) → position_or_len test (map view xs) ≡ position_or_len (λ x. test (view x)) xs
same_prefix test view [] = refl
same_prefix test view (x ∷ xs) = ap (λ n. cond (not (test (view x))) (1 + n) 0) (same_prefix test view xs)

-- the first place at which a test passes, of what the elements stand for
pub position_view : {X Y : Type 0} (test : Y → Bool) (view : X → Y) (xs : List X) → position test (map view xs) ≡ position (λ x. test (view x)) xs
position_view test view xs = rw (length-map xs view, same_prefix test view xs) refl
