-- Where a test stops to hold in a list.
use Rattle.std.specs.Prelude.{Bool, true, false, cond, ◌&&◌, ◌||◌, List, [], ◌∷◌, drop}

-- what an answer of a test says
abbrev pub answer_of : Bool → Bool → Bool → Bool
answer_of b passed failed = cond b passed failed

-- whether nothing stands there
abbrev pub is_none : {X : Type 0} → List X → Bool
is_none [] = true
is_none (x ∷ xs) = false

-- whether there is a first, and it passes
abbrev pub first_passes : {X : Type 0} → (X → Bool) → List X → Bool
first_passes p [] = false
first_passes p (x ∷ xs) = p x

-- whether there is a last, and it passes
abbrev pub last_passes : {X : Type 0} → (X → Bool) → List X → Bool
last_passes p [] = false
last_passes p (x ∷ []) = p x
last_passes p (x ∷ y ∷ ys) = last_passes p (y ∷ ys)

-- whether the first passes, if there is one
abbrev pub begins_with : {X : Type 0} → (X → Bool) → List X → Bool
begins_with p [] = true
begins_with p (x ∷ xs) = p x

-- whether the last passes, if there is one
abbrev pub ends_with : {X : Type 0} → (X → Bool) → List X → Bool
ends_with p [] = true
ends_with p (x ∷ []) = p x
ends_with p (x ∷ y ∷ ys) = ends_with p (y ∷ ys)

-- whether the second list begins with the last item that passes; or none passes, and the first list is empty
abbrev pub is_before_edge : {X : Type 0} → (X → Bool) → (X → Bool) → List X → List X → Bool
is_before_edge p q before from =
    (is_none before && begins_with q from) || (first_passes p from && begins_with q (drop 1 from))
