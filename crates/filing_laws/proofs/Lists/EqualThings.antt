-- Lemmas of tests for equal values: of things, of options, and of three tests in turn.
use Rattle.std.proofs.Common.{◌≡◌, ap, sym, refl, Bool, true, false, ◌&&◌, Option, Some, None, true≢false}
use Rattle.std.specs.Option.{option_eq}
use Rattle.filing_model.specs.Sessions.Things.{Thing, thing_eq}
use Rattle.filing_model.proofs.Sessions.Things.{thing_decides}

pub option_same : {A : Type 0} (eq : A → A → Bool) → ((x y : A) → eq x y ≡ true → x ≡ y) → (p q : Option A) → option_eq eq p q ≡ true → p ≡ q
option_same eq same None None e = refl
option_same eq same (Some x) (Some y) e = ap Some (same x y e)
option_same eq same None (Some y) e = absurd (true≢false (sym e))
option_same eq same (Some x) None e = absurd (true≢false (sym e))

pub three_parts : (a b c : Bool) → (a && b && c) ≡ true → (a ≡ true) × (b ≡ true) × (c ≡ true)
three_parts true true c e = (refl, refl, e)
three_parts true false c e = absurd (true≢false (sym e))
three_parts false b c e = absurd (true≢false (sym e))

pub thing_same : (t u : Thing) → thing_eq t u ≡ true → t ≡ u
thing_same t u e = (thing_decides t u).0 e

pub thing_itself : (t : Thing) → thing_eq t t ≡ true
thing_itself t = (thing_decides t t).1 refl
