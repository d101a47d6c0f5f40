-- Tests of every pair of a list.
use Rattle.std.proofs.Common.{◌≡◌, ap, refl, Bool, true, false, cond, ◌&&◌, suc, List, [], ◌∷◌, filter, arith}
use Rattle.std.specs.Bool.{Decides}
use Rattle.std.specs.List.{list_all, AllPairs}
use Rattle.std.proofs.lemmas.Bool.Decides.{Decides-by_and}
use Rattle.std.proofs.lemmas.List.Kept.{AllPairs-cons}
use Rattle.std.proofs.lemmas.Bool.{and_parts, and_from}
use Rattle.filing_model.specs.Oim.Duplicates.{every_pair}

pub all_implied : {A : Type 0} (f g : A → Bool) → ((x : A) → f x ≡ true → g x ≡ true) → (xs : List A) → list_all f xs ≡ true → list_all g xs ≡ true
all_implied f g follows [] holds = refl
all_implied f g follows (x ∷ xs) holds =
    let parts = and_parts (f x) (list_all f xs) holds in
    and_from (g x) (list_all g xs) (follows x parts.0) (all_implied f g follows xs parts.1)

pub pairs_implied : {A : Type 0} (f g : A → A → Bool) → ((x y : A) → f x y ≡ true → g x y ≡ true) → (xs : List A) → every_pair f xs ≡ true → every_pair g xs ≡ true
pairs_implied f g follows [] holds = refl
pairs_implied f g follows (x ∷ xs) holds =
    let parts = and_parts (list_all (f x) xs) (every_pair f xs) holds in
    and_from (list_all (g x) xs) (every_pair g xs) (all_implied (f x) (g x) (follows x) xs parts.0) (pairs_implied f g follows xs parts.1)

pub all_same : {A : Type 0} (f g h : A → Bool) → ((x : A) → f x ≡ true → g x ≡ h x) → (xs : List A) → list_all f xs ≡ true → list_all g xs ≡ list_all h xs
all_same f g h same [] holds = refl
all_same f g h same (x ∷ xs) holds =
    let parts = and_parts (f x) (list_all f xs) holds in
    λ i. same x parts.0 i && all_same f g h same xs parts.1 i

pub pairs_same : {A : Type 0} (f g h : A → A → Bool) → ((x y : A) → f x y ≡ true → g x y ≡ h x y) → (xs : List A) → every_pair f xs ≡ true → every_pair g xs ≡ every_pair h xs
pairs_same f g h same [] holds = refl
pairs_same f g h same (x ∷ xs) holds =
    let parts = and_parts (list_all (f x) xs) (every_pair f xs) holds in
    λ i. all_same (f x) (g x) (h x) (same x) xs parts.0 i && pairs_same f g h same xs parts.1 i

pub all_filter : {A : Type 0} (f p : A → Bool) (xs : List A) → list_all f xs ≡ true → list_all f (filter p xs) ≡ true
all_filter f p [] holds = refl
all_filter f p (x ∷ xs) holds =
    let parts = and_parts (f x) (list_all f xs) holds in
    let rest = all_filter f p xs parts.1 in
    elim (p x) as (λ b. list_all f (cond b (x ∷ filter p xs) (filter p xs)) ≡ true) [ true ↦ and_from (f x) (list_all f (filter p xs)) parts.0 rest | false ↦ rest ]

pub pairs_filter : {A : Type 0} (f : A → A → Bool) (p : A → Bool) (xs : List A) → every_pair f xs ≡ true → every_pair f (filter p xs) ≡ true
pairs_filter f p [] holds = refl
pairs_filter f p (x ∷ xs) holds =
    let parts = and_parts (list_all (f x) xs) (every_pair f xs) holds in
    let rest = pairs_filter f p xs parts.1 in
    elim (p x) as (λ b. every_pair f (cond b (x ∷ filter p xs) (filter p xs)) ≡ true) [
      | true ↦ and_from (list_all (f x) (filter p xs)) (every_pair f (filter p xs)) (all_filter (f x) p xs parts.0) rest
      | false ↦ rest
    ]

pub all_always : {A : Type 0} (test : A → Bool) → ((x : A) → test x ≡ true) → (xs : List A) → list_all test xs ≡ true
all_always test always [] = refl
all_always test always (x ∷ xs) = and_from (test x) (list_all test xs) (always x) (all_always test always xs)

pub pairs_always : {A : Type 0} (test : A → A → Bool) → ((x y : A) → test x y ≡ true) → (xs : List A) → every_pair test xs ≡ true
pairs_always test always [] = refl
pairs_always test always (x ∷ xs) = and_from (list_all (test x) xs) (every_pair test xs) (all_always (test x) (always x) xs) (pairs_always test always xs)

-- a test that two elements pass where both pass it with a third: every pair passes where all pass it with the first
module _ {A : Type 0} (test : A → A → Bool) (through : (x y z : A) → test x y ≡ true → test x z ≡ true → test y z ≡ true) where
  all_with_one : (x : A) (xs : List A) → list_all (test x) xs ≡ true → every_pair test xs ≡ true
  all_with_one x [] holds = refl
  all_with_one x (y ∷ ys) holds =
      let parts = and_parts (test x y) (list_all (test x) ys) holds in
      and_from (list_all (test y) ys) (every_pair test ys) (all_implied (test x) (test y) (λ z e. through x y z parts.0 e) ys parts.1) (all_with_one x ys parts.1)

  with_the_first : (x : A) (xs : List A) (b : Bool) → list_all (test x) xs ≡ b → (list_all (test x) xs && every_pair test xs) ≡ b
  with_the_first x xs true e = and_from (list_all (test x) xs) (every_pair test xs) e (all_with_one x xs e)
  with_the_first x xs false e = ap (λ a. a && every_pair test xs) e

  pub every_pair_with_the_first : (x : A) (xs : List A) → every_pair test (x ∷ xs) ≡ list_all (test x) xs
  every_pair_with_the_first x xs = with_the_first x xs (list_all (test x) xs) refl

-- a test of every pair decides what its answers decide of two elements
pub every_pair_decides : {A : Type 0} (test : A → A → Bool) (R : A → A → Type 0) → ((x y : A) → Decides (test x y) (R x y)) → (xs : List A) → Decides (every_pair test xs) (AllPairs R xs)
every_pair_decides test R decides [] = (λ e i j d before within. absurd (omega arith), λ r. refl)
every_pair_decides {A = A} test R decides (x ∷ xs) =
    let with_first = Decides-by_and (test x) (R x) (list_all (test x)) (decides x) refl (λ _ _. refl) xs in
    let later = every_pair_decides test R decides xs in (
      λ e. let parts = and_parts (list_all (test x) xs) (every_pair test xs) e in AllPairs-cons R x xs (with_first.0 parts.0) (later.0 parts.1),
      λ r. and_from (list_all (test x) xs) (every_pair test xs)
          (with_first.1 (λ k d within. r 0 (suc k) d (omega arith) (omega arith)))
          (later.1 (λ i j d before within. r (suc i) (suc j) d (omega arith) (omega arith))),
    )
