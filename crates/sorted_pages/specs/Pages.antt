-- What pages hold, and the numbers that stand next to it.
use Rattle.std.specs.Prelude.{◌≡◌, ℕ, ◌&&◌, T, nat_lt, nat_le, sum, List, [], ◌∷◌, ◌++◌, max, Option, Some, None}
use Rattle.std.specs.List.{flat_map, list_all}
use Rattle.std.specs.Arc.{arc_value}
use Rattle.std.specs.declared.sync.Arc.{Arc}

-- an entry, in a list
abbrev pub singleton : {E : Type 0} → E → List E
singleton e = e ∷ []

-- the entries of a block, by those of each of its items
abbrev pub of_block : {X E Z : Type 0} → (X → List E) → Arc (List X) Z → List E
of_block v block = flat_map v (arc_value block)

-- the entries of a page, of a run of pages, of a group of runs and of a section of groups
abbrev pub of_page : {E Z : Type 0} → Arc (List E) Z → List E
of_page page = of_block singleton page

abbrev pub of_run : {E Y Z : Type 0} → Arc (List (Arc (List E) Z)) Y → List E
of_run run = of_block of_page run

abbrev pub of_group : {E X Y Z : Type 0} → Arc (List (Arc (List (Arc (List E) Z)) Y)) X → List E
of_group group = of_block of_run group

abbrev pub of_section : {E W X Y Z : Type 0} → Arc (List (Arc (List (Arc (List (Arc (List E) Z)) Y)) X)) W → List E
of_section section = of_block of_group section

-- the items of a block that was cut off, if one was
abbrev pub items_of : {X Z : Type 0} → Option (Arc (List X) Z) → List X
items_of None = []
items_of (Some block) = arc_value block

-- these are the items of the first block and the blocks after it
abbrev pub IsFirstBlock : {X Z : Type 0} → List (Arc (List X) Z) → List X → List (Arc (List X) Z) → Type 0
IsFirstBlock [] items rest = (items ≡ []) × (rest ≡ [])
IsFirstBlock (block ∷ blocks) items rest = (items ≡ arc_value block) × (rest ≡ blocks)

-- the greatest of the numbers of these, or 0 where there is none
abbrev pub greatest : {X : Type 0} → (X → ℕ) → List X → ℕ
greatest f [] = 0
greatest f (x ∷ xs) = max (f x) (greatest f xs)

-- x is the first of the list, or the last
abbrev pub IsFirst : {X : Type 0} → X → List X → Type 0
IsFirst {X} x xs = (rest : List X) × (xs ≡ x ∷ rest)

abbrev pub IsLast : {X : Type 0} → X → List X → Type 0
IsLast {X} x xs = (rest : List X) × (xs ≡ rest ++ x ∷ [])

-- these are lengths of pages that hold this many entries
pub record AreSizes (sizes : List ℕ) (entries : ℕ) : Type 0 where
  pub total : sum sizes ≡ entries
  pub fit : T (list_all (λ n. nat_lt 0 n && nat_le n 64) sizes)
