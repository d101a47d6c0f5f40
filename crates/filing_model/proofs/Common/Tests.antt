-- Lemmas of tests, and of the orderings, options and results that tests look at.
use Rattle.std.proofs.Common.{◌≡◌, Bool, true, false, cond, ◌&&◌, ◌||◌, T, Ordering, Less, Equal, Greater, is_eq, is_lt, is_some, is_ok, Option, Some, None, Result, Ok, Err, ap, sym, refl, true≢false}
use Rattle.std.specs.Ordering.{ordering_then, ordering_reverse}
use Rattle.std.specs.Result.{result_unwrap_or}

-- ---- two tests

pub both_hold : (a b : Bool) → T a → T b → T (a && b)
both_hold true b p q = q
both_hold false b p q = p

pub first_holds : (a b : Bool) → T (a && b) → T a
first_holds true b h = tt
first_holds false b h = h

pub second_holds : (a b : Bool) → T (a && b) → T b
second_holds true b h = h
second_holds false b h = absurd h

pub asked_twice : (a b : Bool) → (a || b) ≡ (a || (a || b))
asked_twice true b = refl
asked_twice false b = refl

-- ---- orderings

pub less_from_is_lt : (o : Ordering) → T (is_lt o) → o ≡ Less
less_from_is_lt Less h = refl
less_from_is_lt Equal h = absurd h
less_from_is_lt Greater h = absurd h

pub less_from_not_greater : (o : Ordering) → is_lt (ordering_reverse o) ≡ false → is_eq o ≡ false → o ≡ Less
less_from_not_greater Less h n = refl
less_from_not_greater Equal h n = absurd (true≢false n)
less_from_not_greater Greater h n = absurd (true≢false h)

pub both_are_equal : (o p : Ordering) → ordering_then o p ≡ Equal → (o ≡ Equal) × (p ≡ Equal)
both_are_equal Less p h = absurd (true≢false (ap is_lt h))
both_are_equal Equal p h = (refl, h)
both_are_equal Greater p h = absurd (true≢false (sym (ap is_eq h)))

-- ---- options and results

pub none_from_not_is_some : {A : Type 0} (o : Option A) → is_some o ≡ false → o ≡ None
none_from_not_is_some None h = refl
none_from_not_is_some (Some x) h = absurd (true≢false h)

pub same_Ok : {A E : Type 0} (x y : A) → ◌≡◌ {A = Result A E} (Ok x) (Ok y) → x ≡ y
same_Ok x y h = ap (λ r. result_unwrap_or r x) h

pub no_Err : {A E P : Type 0} (e : E) (x : A) → ◌≡◌ {A = Result A E} (Err e) (Ok x) → P
no_Err e x h = absurd (true≢false (sym (ap is_ok h)))

-- a value that branches gave, where the first branch is a fault
pub no_fault : {A E : Type 0} (b : Bool) (e : E) (r : Result A E) (x : A) → cond b (Err e) r ≡ Ok x → (b ≡ false) × (r ≡ Ok x)
no_fault true e r x h = no_Err e x h
no_fault false e r x h = (refl, h)

-- and where the second is
pub passed_test : {A E : Type 0} (b : Bool) (r : Result A E) (e : E) (x : A) → cond b r (Err e) ≡ Ok x → (b ≡ true) × (r ≡ Ok x)
passed_test true r e x h = (refl, h)
passed_test false r e x h = no_Err e x h
