-- What holds of each element of a list, and of what an option holds.
use Rattle.std.proofs.Common.{◌≡◌, Bool, false, List, [], ◌∷◌, ◌++◌, Option, Some, None}
use Rattle.std.proofs.lemmas.Bool.{or_parts}
use Rattle.std.specs.List.{list_any, cons_option}

abbrev pub Each : {A : Type 0} → (A → Type 0) → List A → Type 0
Each P [] = Unit {0}
Each P (x ∷ xs) = P x × Each P xs

abbrev pub OnEach : {A : Type 0} → (A → Type 0) → Option A → Type 0
OnEach P None = Unit {0}
OnEach P (Some x) = P x

pub each_mapped : {A : Type 0} (P Q : A → Type 0) → ((x : A) → P x → Q x) → (xs : List A) → Each P xs → Each Q xs
each_mapped P Q f [] h = tt
each_mapped P Q f (x ∷ xs) h = (f x h.0, each_mapped P Q f xs h.1)

pub each_appended : {A : Type 0} (P : A → Type 0) (xs ys : List A) → Each P xs → Each P ys → Each P (xs ++ ys)
each_appended P [] ys h hs = hs
each_appended P (x ∷ xs) ys h hs = (h.0, each_appended P xs ys h.1 hs)

-- of what may stand before a list, and of the list
pub each_parts : {A : Type 0} (P : A → Type 0) (o : Option A) (xs : List A) → Each P (cons_option o xs) → OnEach P o × Each P xs
each_parts P None xs h = (tt, h)
each_parts P (Some x) xs h = h

pub each_joined : {A : Type 0} (P : A → Type 0) (o : Option A) (xs : List A) → OnEach P o → Each P xs → Each P (cons_option o xs)
each_joined P None xs h hs = hs
each_joined P (Some x) xs h hs = (h, hs)

-- no element passes a test
abbrev pub IsNever : {A : Type 0} → (A → Bool) → List A → Type 0
IsNever test xs = list_any test xs ≡ false

pub never_parts : {A : Type 0} (test : A → Bool) (x : A) (xs : List A) → IsNever test (x ∷ xs) → (test x ≡ false) × IsNever test xs
never_parts test x xs h = or_parts (test x) (list_any test xs) h
