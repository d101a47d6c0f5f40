-- Keys: numbers of entries that tell most of their order.
use Rattle.std.specs.Prelude.{◌≡◌, ℕ, ◌<◌, List, [], ◌∷◌, Option, Some, None}
use Rattle.std.specs.declared.cmp.Ordering.{Ordering}
use Rattle.std.specs.declared.cmp.Ordering.TheVariants.{Less, Equal, Greater}
use Rattle.sorted_pages.specs.Pages.{IsFirst, IsLast}

-- an entry with a lesser key is less
abbrev pub KeyRises : {E : Type 0} → (E → E → Ordering) → (E → ℕ) → Type 0
KeyRises {E} R key = (x y : E) → key x < key y → R x y ≡ Less

-- a side that is told of a key is that of each entry with this key
abbrev pub TellsSide : {E : Type 0} → (E → ℕ) → (E → Ordering) → ℕ → Option Ordering → Type 0
TellsSide key side number None = Unit {0}
TellsSide {E} key side number (Some told) = (e : E) → key e ≡ number → side e ≡ told

-- an order, where it tells two apart
abbrev pub told_apart : Ordering → Option Ordering
told_apart Less = Some Less
told_apart Equal = None
told_apart Greater = Some Greater

-- the key of the first of these items, and of the last, if there is one
abbrev pub first_of : {X : Type 0} → (X → Option ℕ) → List X → Option ℕ
first_of key [] = None
first_of key (x ∷ xs) = key x

abbrev pub last_of : {X : Type 0} → (X → Option ℕ) → List X → Option ℕ
last_of key [] = None
last_of key (x ∷ []) = key x
last_of key (x ∷ y ∷ ys) = last_of key (y ∷ ys)

-- there is a first entry, and it has this key; and a last
abbrev pub BeginsWithKey : {E : Type 0} → (E → ℕ) → ℕ → List E → Type 0
BeginsWithKey {E} key number es = (e : E) × IsFirst e es × (key e ≡ number)

abbrev pub EndsWithKey : {E : Type 0} → (E → ℕ) → ℕ → List E → Type 0
EndsWithKey {E} key number es = (e : E) × IsLast e es × (key e ≡ number)

-- there is a first entry, and it has this side; and a last
abbrev pub IsSideOfFirst : {E : Type 0} → (E → Ordering) → Ordering → List E → Type 0
IsSideOfFirst {E} side told es = (e : E) × IsFirst e es × (told ≡ side e)

abbrev pub IsSideOfLast : {E : Type 0} → (E → Ordering) → Ordering → List E → Type 0
IsSideOfLast {E} side told es = (e : E) × IsLast e es × (told ≡ side e)
