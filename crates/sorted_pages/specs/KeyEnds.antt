-- Keys of the ends of blocks are those of their items.
use Rattle.std.proofs.Common.{◌≡◌, ◌∙◌, ap, sym, subst, refl, ℕ, Option, Some, None}
use Rattle.std.proofs.Common.{List, [], ◌∷◌, ◌++◌, append_assoc, append-nil}
use Rattle.std.specs.List.{flat_map}
use Rattle.sorted_pages.specs.Pages.{singleton}
use Rattle.sorted_pages.specs.Keys.{first_of, last_of, BeginsWithKey, EndsWithKey}

abbrev read_some : ℕ → Option ℕ → ℕ
read_some n None = n
read_some n (Some m) = m

abbrev IsSome : Option ℕ → Type 0
IsSome None = ⊥
IsSome (Some m) = Unit {0}

same_some : (m n : ℕ) → Some m ≡ Some n → n ≡ m
same_some m n h = sym (ap (read_some m) h)

no_none : (n : ℕ) → Some n ≡ None → ⊥
no_none n h = subst IsSome h tt

pub leaf_begins : {E : Type 0} (key : E → ℕ) (leaf : E) (n : ℕ) → Some n ≡ Some (key leaf)
    → BeginsWithKey key n (singleton leaf)
leaf_begins key leaf n h = (leaf, ([], refl), same_some n (key leaf) h)

pub leaf_ends : {E : Type 0} (key : E → ℕ) (leaf : E) (n : ℕ) → Some n ≡ Some (key leaf)
    → EndsWithKey key n (singleton leaf)
leaf_ends key leaf n h = (leaf, ([], refl), same_some n (key leaf) h)

module _ {X E : Type 0} (v : X → List E) (k : X → Option ℕ) (key : E → ℕ) where
  pub block_begins : ((x : X) (n : ℕ) → Some n ≡ k x → BeginsWithKey key n (v x)) → (items : List X) (n : ℕ)
      → Some n ≡ first_of k items
      → BeginsWithKey key n (flat_map v items)
  block_begins law [] n h = absurd (no_none n h)
  block_begins law (x ∷ xs) n h =
      let b = law x n h in
      (b.0, (b.1.0 ++ flat_map v xs, ap (λ es. es ++ flat_map v xs) b.1.1), b.2)

  pub block_ends : ((x : X) (n : ℕ) → Some n ≡ k x → EndsWithKey key n (v x)) → (items : List X) (n : ℕ)
      → Some n ≡ last_of k items
      → EndsWithKey key n (flat_map v items)
  block_ends law [] n h = absurd (no_none n h)
  block_ends law (x ∷ []) n h =
      let b = law x n h in
      (b.0, (b.1.0, append-nil (v x) ∙ b.1.1), b.2)
  block_ends law (x ∷ y ∷ ys) n h =
      let b = block_ends law (y ∷ ys) n h in
      (b.0, (v x ++ b.1.0, ap (λ es. v x ++ es) b.1.1 ∙ sym (append_assoc (v x) b.1.0 (b.0 ∷ []))), b.2)
