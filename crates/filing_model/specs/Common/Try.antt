-- Rust's `?` and `collect` on plain results, so that a definition says its faults in their order, and what code that may want memory answers of one.
use Rattle.std.specs.Prelude.{◌≡◌, List, [], ◌∷◌, ◌++◌, Option, None, Some, Result, Ok, Err, ⊤}
use Rattle.std.specs.Result.{result_map_both}

-- the second step, where the first gave a value; else the first fault
infixl 10 ◌>>=◌
abbrev pub ◌>>=◌ : {A B E : Type 0} → Result A E → (A → Result B E) → Result B E
Ok x >>= f = f x
Err e >>= f = Err e

-- what f gives of each in turn, or the first fault
abbrev pub each : {A B E : Type 0} → (A → Result B E) → List A → Result (List B) E
each f [] = Ok []
each f (x ∷ xs) = do
  y ← f x
  ys ← each f xs
  Ok (y ∷ ys)

-- the same value, or what f makes of the fault
abbrev pub map_err : {A D E : Type 0} → (D → E) → Result A D → Result A E
map_err f r = result_map_both (λ x. x) f r

-- what was read before, in front of what a reading of the rest gives
abbrev pub with_front : {B E : Type 0} → List B → Result (List B) E → Result (List B) E
with_front front (Ok xs) = Ok (front ++ xs)
with_front front (Err e) = Err e

-- a reading that fails so: where memory is wanted, nothing is said
abbrev pub Fails : {A F : Type 0} → Option F → Result A F → Type 0
Fails None reading = ⊤
Fails (Some fault) reading = reading ≡ Err fault

-- what code answers, of which a value is seen as the reading's, and an error as its fault or as want of memory
abbrev pub Gives : {X A E F : Type 0} → (E → Option F) → (X → A) → Result X E → Result A F → Type 0
Gives fault seen (Ok x) reading = reading ≡ Ok (seen x)
Gives fault seen (Err e) reading = Fails (fault e) reading
