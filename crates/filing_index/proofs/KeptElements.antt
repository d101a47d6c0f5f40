-- What a filter keeps of a list, and of what is made of its elements.
use Rattle.std.proofs.Common.{◌≡◌, ap, refl, Bool, true, false, cond, ◌&&◌, ◌||◌, List, [], ◌∷◌, map, filter}
use Rattle.std.specs.List.{list_any}

module _ {A : Type 0} where
  pub filter-true : (xs : List A) → filter (λ x. true) xs ≡ xs
  filter-true [] = refl
  filter-true (x ∷ xs) = ap (λ ys. x ∷ ys) (filter-true xs)

  pub filter-filter : (p q : A → Bool) (xs : List A) → filter q (filter p xs) ≡ filter (λ x. p x && q x) xs
  filter-filter p q [] = refl
  filter-filter p q (x ∷ xs) =
      elim (p x) as (λ b. filter q (cond b (x ∷ filter p xs) (filter p xs)) ≡ cond (b && q x) (x ∷ filter (λ x. p x && q x) xs) (filter (λ x. p x && q x) xs)) [
        | true ↦ ap (λ ys. cond (q x) (x ∷ ys) ys) (filter-filter p q xs)
        | false ↦ filter-filter p q xs
      ]

  -- whether a list has more than one element
  abbrev pub has_two : List A → Bool
  has_two [] = false
  has_two (x ∷ []) = false
  has_two (x ∷ y ∷ xs) = true

  -- where a filter keeps some, some pass
  pub any_kept : (p : A → Bool) (xs : List A) → list_any (λ x. true) (filter p xs) ≡ true → list_any p xs ≡ true
  any_kept p [] some = some
  any_kept p (x ∷ xs) some =
      elim (p x) as (λ b. list_any (λ x. true) (cond b (x ∷ filter p xs) (filter p xs)) ≡ true → (b || list_any p xs) ≡ true) [
        | true ↦ λ _. refl
        | false ↦ λ later. any_kept p xs later
      ] some

  pub any_of_two : (xs : List A) → has_two xs ≡ true → list_any (λ x. true) xs ≡ true
  any_of_two [] two = two
  any_of_two (x ∷ xs) two = refl

module _ {A B : Type 0} (g : A → B) where
  pub map-filter : (p : B → Bool) (xs : List A) → map g (filter (λ x. p (g x)) xs) ≡ filter p (map g xs)
  map-filter p [] = refl
  map-filter p (x ∷ xs) =
      elim (p (g x)) as (λ b. map g (cond b (x ∷ filter (λ x. p (g x)) xs) (filter (λ x. p (g x)) xs))
      ≡ cond b (g x ∷ filter p (map g xs)) (filter p (map g xs))) [
        | true ↦ ap (λ ys. g x ∷ ys) (map-filter p xs)
        | false ↦ map-filter p xs
      ]

  pub list_any-map : (p : B → Bool) (xs : List A) → list_any p (map g xs) ≡ list_any (λ x. p (g x)) xs
  list_any-map p [] = refl
  list_any-map p (x ∷ xs) = ap (λ b. p (g x) || b) (list_any-map p xs)

  pub has_two-map : (xs : List A) → has_two (map g xs) ≡ has_two xs
  has_two-map [] = refl
  has_two-map (x ∷ []) = refl
  has_two-map (x ∷ y ∷ xs) = refl

pub map-map : {A B C : Type 0} (h : B → C) (g : A → B) (xs : List A) → map h (map g xs) ≡ map (λ x. h (g x)) xs
map-map h g [] = refl
map-map h g (x ∷ xs) = ap (λ ys. h (g x) ∷ ys) (map-map h g xs)
