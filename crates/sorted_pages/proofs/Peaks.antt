-- The greatest number of a list, by its parts.
use Rattle.std.proofs.Common.{◌≡◌, ℕ, max, arith, List, [], ◌∷◌, ◌++◌}
use Rattle.sorted_pages.specs.Pages.{greatest}

pub greatest-append : {X : Type 0} (f : X → ℕ) (xs ys : List X) → greatest f (xs ++ ys) ≡ max (greatest f xs) (greatest f ys)
greatest-append f [] ys = omega arith
greatest-append f (x ∷ xs) ys = let rest = greatest-append f xs ys in omega (arith, rest)

pub greatest-push : {X : Type 0} (f : X → ℕ) (xs : List X) (x : X) → greatest f (xs ++ x ∷ []) ≡ max (greatest f xs) (f x)
greatest-push f [] x = omega arith
greatest-push f (y ∷ xs) x = let rest = greatest-push f xs x in omega (arith, rest)
