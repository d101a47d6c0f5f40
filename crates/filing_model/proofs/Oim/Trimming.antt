-- Lemmas of texts without what passes a test at their front or end.
use Rattle.std.proofs.Common.{◌≡◌, ℕ, suc, ◌+◌, ◌-◌, ◌<◌, ◌≤◌, Bool, true, false, not, cond, ◌&&◌, [], ◌∷◌, ◌++◌, length, take, drop, reverse, refl, ap, sym, ◌∙◌, arith}
use Rattle.std.proofs.Math.Seq.{take-append_seam}
use Rattle.std.proofs.lemmas.List.{take-append-drop, reverse-append, reverse-reverse, length-reverse, length-drop}
use Rattle.std.proofs.lemmas.List.Folds.{list_all-append}
use Rattle.std.proofs.lemmas.List.Sums.{suffix_len-le-length}
use Rattle.std.proofs.lemmas.Bool.{and_parts, and_from, not-true}
use Rattle.std.specs.List.{list_all, prefix_len, suffix_len, before_first, after_first, position_or_len}
use Rattle.filing_model.specs.Common.Text.{Text}
use Rattle.filing_model.specs.Oim.Numerals.{without_front, without_end}

module _ (p : ℕ → Bool) where
  -- ---- the front

  pub front_cons : (x : ℕ) (xs : Text) → without_front p (x ∷ xs) ≡ cond (p x) (without_front p xs) (x ∷ xs)
  front_cons x xs = elim (p x) as (λ b. drop (cond b (1 + prefix_len p xs) 0) (x ∷ xs) ≡ cond b (without_front p xs) (x ∷ xs)) [
    | true ↦ (let e : 1 + prefix_len p xs ≡ suc (prefix_len p xs) = omega arith in ap (λ k. drop k (x ∷ xs)) e)
    | false ↦ refl
  ]

  pub front_skip : (xs ys : Text) → list_all p xs ≡ true → without_front p (xs ++ ys) ≡ without_front p ys
  front_skip [] ys e = refl
  front_skip (x ∷ xs) ys e =
      let t = and_parts (p x) (list_all p xs) e in
      front_cons x (xs ++ ys) ∙ ap (λ b. cond b (without_front p (xs ++ ys)) (x ∷ (xs ++ ys))) t.0 ∙ front_skip xs ys t.1

  pub front_keep : (xs ys : Text) → list_all (λ x. not (p x)) xs ≡ true → 0 < length xs → without_front p (xs ++ ys) ≡ xs ++ ys
  front_keep [] ys e some = absurd (omega arith)
  front_keep (x ∷ xs) ys e some =
      let t = and_parts (not (p x)) (list_all (λ x. not (p x)) xs) e in
      let none : p x ≡ false = not-true (p x) t.0 in
      front_cons x (xs ++ ys) ∙ ap (λ b. cond b (without_front p (xs ++ ys)) (x ∷ (xs ++ ys))) none

  -- what is dropped passes
  pub dropped : (xs : Text) → list_all p (take (prefix_len p xs) xs) ≡ true
  dropped [] = refl
  dropped (x ∷ xs) = elim (p x) as (λ b. p x ≡ b → list_all p (take (cond b (1 + prefix_len p xs) 0) (x ∷ xs)) ≡ true) [
    | true ↦ (λ e. let n : 1 + prefix_len p xs
        ≡ suc (prefix_len p xs) = omega arith in ap (λ k. list_all p (take k (x ∷ xs))) n
        ∙ and_from (p x) (list_all p (take (prefix_len p xs) xs)) e (dropped xs))
    | false ↦ (λ e. refl)
  ] refl

  -- ---- the end

  pub all_reverse : (xs : Text) → list_all p (reverse xs) ≡ list_all p xs
  all_reverse [] = refl
  all_reverse (x ∷ xs) =
      ap (λ ys. list_all p ys) (reverse-append (x ∷ []) xs)
      ∙ list_all-append p (reverse xs) (x ∷ [])
      ∙ turned (list_all p (reverse xs)) (list_all p xs) (p x) (all_reverse xs)
    where
      turned : (a b c : Bool) → a ≡ b → (a && (c && true)) ≡ (c && b)
      turned true true true e = refl
      turned true true false e = refl
      turned false false true e = refl
      turned false false false e = refl
      turned true false c e = absurd (cc)
      turned false true c e = absurd (cc)

  take_reverse : (xs : Text) (k : ℕ) → k ≤ length xs → take (length xs - k) xs ≡ reverse (drop k (reverse xs))
  take_reverse xs k within =
      let front = reverse (drop k (reverse xs)) in
      let end = reverse (take k (reverse xs)) in
      let parts : xs ≡ front ++ end = sym (reverse-reverse xs) ∙ ap reverse (sym (take-append-drop k (reverse xs))) ∙ reverse-append (take k (reverse xs)) (drop k (reverse xs)) in
      let n : length xs - k ≡ length front = omega (arith, length-reverse (drop k (reverse xs)), length-drop k (reverse xs), length-reverse xs) in
      ap (λ m. take m xs) n ∙ ap (λ ys. take (length front) ys) parts ∙ take-append_seam front end

  pub end_reverse : (xs : Text) → without_end p xs ≡ reverse (without_front p (reverse xs))
  end_reverse xs = take_reverse xs (suffix_len p xs) (suffix_len-le-length p xs)

  pub end_skip : (xs ys : Text) → list_all p ys ≡ true → without_end p (xs ++ ys) ≡ without_end p xs
  end_skip xs ys e =
      end_reverse (xs ++ ys)
      ∙ ap (λ l. reverse (without_front p l)) (reverse-append xs ys)
      ∙ ap reverse (front_skip (reverse ys) (reverse xs) (all_reverse ys ∙ e))
      ∙ sym (end_reverse xs)

  -- what is dropped at the end passes
  pub end_parts : (xs : Text) → (ys : Text) × (xs ≡ without_end p xs ++ ys) × (list_all p ys ≡ true)
  end_parts xs =
      let back = reverse xs in
      let end = reverse (take (prefix_len p back) back) in
      let parts : xs ≡ reverse (without_front p back) ++ end = sym (reverse-reverse xs) ∙ ap reverse (sym (take-append-drop (prefix_len p back) back))
      ∙ reverse-append (take (prefix_len p back) back) (without_front p back) in
      (end, parts ∙ ap (λ l. l ++ end) (sym (end_reverse xs)), all_reverse (take (prefix_len p back) back) ∙ dropped back)

  -- ---- the first that passes

  pub before_cons : (x : ℕ) (xs : Text) → before_first p (x ∷ xs) ≡ cond (p x) [] (x ∷ before_first p xs)
  before_cons x xs = elim (p x) as (λ b. take (cond (not b) (1 + position_or_len p xs) 0) (x ∷ xs) ≡ cond b [] (x ∷ before_first p xs)) [
    | true ↦ refl
    | false ↦ (let e : 1 + position_or_len p xs ≡ suc (position_or_len p xs) = omega arith in ap (λ k. take k (x ∷ xs)) e)
  ]

  pub after_cons : (x : ℕ) (xs : Text) → after_first p (x ∷ xs) ≡ cond (p x) xs (after_first p xs)
  after_cons x xs = elim (p x) as (λ b. drop (cond (not b) (1 + position_or_len p xs) 0 + 1) (x ∷ xs) ≡ cond b xs (after_first p xs)) [
    | true ↦ refl
    | false ↦ (let e : 1 + position_or_len p xs + 1 ≡ suc (position_or_len p xs + 1) = omega arith in ap (λ k. drop k (x ∷ xs)) e)
  ]

pub all_not : (p : ℕ → Bool) (xs : Text) → list_all (λ x. not (p x)) (reverse xs) ≡ list_all (λ x. not (p x)) xs
all_not p xs = all_reverse (λ x. not (p x)) xs

pub end_keep : (p : ℕ → Bool) (xs ys : Text) → list_all (λ x. not (p x)) ys ≡ true → 0 < length ys → without_end p (xs ++ ys) ≡ xs ++ ys
end_keep p xs ys e some =
    end_reverse p (xs ++ ys)
    ∙ ap (λ l. reverse (without_front p l)) (reverse-append xs ys)
    ∙ ap reverse (front_keep p (reverse ys) (reverse xs) (all_not p ys ∙ e) (omega (arith, length-reverse ys)))
    ∙ ap reverse (sym (reverse-append xs ys))
    ∙ reverse-reverse (xs ++ ys)
