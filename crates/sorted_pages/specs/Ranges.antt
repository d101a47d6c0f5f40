-- Ranges of a sorted list by a monotone test.
use Rattle.std.specs.Prelude.{◌≡◌, Bool, true, cond, List, [], ◌∷◌, filter, find, not, Option}
use Rattle.std.specs.Ordering.{is_lt, is_gt, is_eq}
use Rattle.std.specs.declared.cmp.Ordering.{Ordering}
use Rattle.std.specs.declared.cmp.Ordering.TheVariants.{Less}

-- an entry that is less than one before the range stands before it, and one that is less than one in it is not past it
pub record IsMonotone {E : Type 0} (R : E → E → Ordering) (side : E → Ordering) : Type 0 where
  pub before : (x y : E) → R x y ≡ Less → is_lt (side y) ≡ true → is_lt (side x) ≡ true
  pub until : (x y : E) → R x y ≡ Less → is_gt (side x) ≡ true → is_gt (side y) ≡ true

-- the entries in the range
abbrev pub within : {E : Type 0} → (E → Ordering) → List E → List E
within side es = filter (λ e. is_eq (side e)) es

-- the first of them
abbrev pub first_within : {E : Type 0} → (E → Ordering) → List E → Option E
first_within side es = find (λ e. is_eq (side e)) es

-- the entries from the first on that fails, and those up to it
abbrev pub failing_from : {E : Type 0} → (E → Bool) → List E → List E
failing_from p [] = []
failing_from p (e ∷ es) = cond (p e) (failing_from p es) (e ∷ es)

abbrev pub passing_to : {E : Type 0} → (E → Bool) → List E → List E
passing_to p [] = []
passing_to p (e ∷ es) = cond (p e) (e ∷ passing_to p es) []

-- the entries from the first on that does not stand before the range, and those up to the first past it
abbrev pub from_span : {E : Type 0} → (E → Ordering) → List E → List E
from_span side es = failing_from (λ e. is_lt (side e)) es

abbrev pub until_span : {E : Type 0} → (E → Ordering) → List E → List E
until_span side es = passing_to (λ e. not (is_gt (side e))) es
