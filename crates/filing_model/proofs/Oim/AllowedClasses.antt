-- A class is allowed exactly where each pair of its cell is.
use Rattle.std.proofs.Common.{◌≡◌, ◌∙◌, ap, sym, refl, Bool, true, false, cond, not, ◌&&◌, ◌||◌, List, [], ◌∷◌, true≢false}
use Rattle.std.specs.List.{list_all}
use Rattle.std.proofs.lemmas.Bool.{and_parts, not-true}
use Rattle.filing_model.specs.Oim.Duplicates.{every_pair, is_apart, is_complete, is_consistent, class_by, allows, permits}
use Rattle.filing_model.proofs.Oim.EveryPair.{pairs_same, pairs_implied, pairs_always}
use Rattle.filing_model.specs.declared.duplicates.Allowed.{Allowed}
use Rattle.filing_model.specs.declared.duplicates.Allowed.TheVariants as allowed
use Rattle.filing_model.specs.declared.duplicates.Class.{Class}
use Rattle.filing_model.specs.declared.duplicates.Class.TheVariants as class
use Rattle.filing_model.specs.declared.duplicates.Pair.{Pair}
use Rattle.filing_model.specs.declared.duplicates.Pair.TheVariants as pair

-- ---- the class of a cell

complete_is_consistent : (p : Pair) → is_complete p ≡ true → is_consistent p ≡ true
complete_is_consistent pair.Apart e = absurd (true≢false (sym e))
complete_is_consistent pair.Complete e = refl
complete_is_consistent pair.Consistent e = refl
complete_is_consistent pair.Inconsistent e = absurd (true≢false (sym e))

-- the class of two or more facts, by whether all pairs are complete, are consistent and are not apart
abbrev class_if : Bool → Bool → Bool → Class
class_if complete consistent together = cond complete class.Complete (cond consistent class.Consistent (cond together class.Inconsistent class.Mixed))

never_allows : (c k n : Bool) → allows allowed.Never (class_if c k n) ≡ false
never_allows true k n = refl
never_allows false true n = refl
never_allows false false true = refl
never_allows false false false = refl

all_allows : (c k n : Bool) → n ≡ true → allows allowed.All (class_if c k n) ≡ true
all_allows true k n e = refl
all_allows false true n e = refl
all_allows false false true e = refl
all_allows false false false e = e

complete_allows : (c k n : Bool) → allows allowed.Complete (class_if c k n) ≡ c
complete_allows true k n = refl
complete_allows false true n = refl
complete_allows false false true = refl
complete_allows false false false = refl

consistent_allows : (c k n : Bool) → (c ≡ true → k ≡ true) → allows allowed.Consistent (class_if c k n) ≡ k
consistent_allows true k n implied = sym (implied refl)
consistent_allows false true n implied = refl
consistent_allows false false true implied = refl
consistent_allows false false false implied = refl

single_is_allowed : (a : Allowed) → allows a class.Single ≡ true
single_is_allowed allowed.Never = refl
single_is_allowed allowed.Complete = refl
single_is_allowed allowed.Consistent = refl
single_is_allowed allowed.All = refl

pub empty_is_allowed : (a : Allowed) → allows a class.Empty ≡ true
empty_is_allowed allowed.Never = refl
empty_is_allowed allowed.Complete = refl
empty_is_allowed allowed.Consistent = refl
empty_is_allowed allowed.All = refl

module _ {A : Type 0} (pairing : A → A → Pair) where
  abbrev pub AreTogether : List A → Type 0
  AreTogether xs = every_pair (λ x y. not (is_apart (pairing x y))) xs ≡ true

  first_not_apart : (x y : A) (xs : List A) → AreTogether (x ∷ y ∷ xs) → is_apart (pairing x y) ≡ false
  first_not_apart x y xs together =
      not-true (is_apart (pairing x y))
      (and_parts (not (is_apart (pairing x y))) (list_all (λ z. not (is_apart (pairing x z))) xs)
      (and_parts (list_all (λ z. not (is_apart (pairing x z))) (y ∷ xs)) (every_pair (λ x y. not (is_apart (pairing x y))) (y ∷ xs)) together).0).0

  several : (a : Allowed) (x y : A) (xs : List A) → AreTogether (x ∷ y ∷ xs) → allows a (class_by pairing (x ∷ y ∷ xs)) ≡ every_pair (λ x y. permits a (pairing x y)) (x ∷ y ∷ xs)
  several allowed.Never x y xs together =
      never_allows (every_pair (λ x y. is_complete (pairing x y)) (x ∷ y ∷ xs))
      (every_pair (λ x y. is_consistent (pairing x y)) (x ∷ y ∷ xs))
      (every_pair (λ x y. not (is_apart (pairing x y))) (x ∷ y ∷ xs))
      ∙ sym (ap (λ b. (b && list_all (λ z. is_apart (pairing x z)) xs) && every_pair (λ x y. is_apart (pairing x y)) (y ∷ xs)) (first_not_apart x y xs together))
  several allowed.All x y xs together =
      all_allows (every_pair (λ x y. is_complete (pairing x y)) (x ∷ y ∷ xs))
      (every_pair (λ x y. is_consistent (pairing x y)) (x ∷ y ∷ xs))
      (every_pair (λ x y. not (is_apart (pairing x y))) (x ∷ y ∷ xs)) together
      ∙ sym (pairs_always (λ x y. true) (λ x y. refl) (x ∷ y ∷ xs))
  several allowed.Complete x y xs together =
      complete_allows (every_pair (λ x y. is_complete (pairing x y)) (x ∷ y ∷ xs))
      (every_pair (λ x y. is_consistent (pairing x y)) (x ∷ y ∷ xs))
      (every_pair (λ x y. not (is_apart (pairing x y))) (x ∷ y ∷ xs))
      ∙ sym (pairs_same (λ x y. not (is_apart (pairing x y))) (λ x y. is_apart (pairing x y) || is_complete (pairing x y)) (λ x y. is_complete (pairing x y))
      (λ x y apart. ap (λ b. b || is_complete (pairing x y)) (not-true (is_apart (pairing x y)) apart)) (x ∷ y ∷ xs) together)
  several allowed.Consistent x y xs together =
      consistent_allows (every_pair (λ x y. is_complete (pairing x y)) (x ∷ y ∷ xs))
      (every_pair (λ x y. is_consistent (pairing x y)) (x ∷ y ∷ xs))
      (every_pair (λ x y. not (is_apart (pairing x y))) (x ∷ y ∷ xs))
      (pairs_implied (λ x y. is_complete (pairing x y)) (λ x y. is_consistent (pairing x y)) (λ x y e. complete_is_consistent (pairing x y) e) (x ∷ y ∷ xs))
      ∙ sym (pairs_same (λ x y. not (is_apart (pairing x y))) (λ x y. is_apart (pairing x y) || is_consistent (pairing x y)) (λ x y. is_consistent (pairing x y))
      (λ x y apart. ap (λ b. b || is_consistent (pairing x y)) (not-true (is_apart (pairing x y)) apart)) (x ∷ y ∷ xs) together)

  pub allows-class_by : (a : Allowed) (xs : List A) → AreTogether xs → allows a (class_by pairing xs) ≡ every_pair (λ x y. permits a (pairing x y)) xs
  allows-class_by a [] together = empty_is_allowed a
  allows-class_by a (x ∷ []) together = single_is_allowed a
  allows-class_by a (x ∷ y ∷ xs) together = several a x y xs together
