-- Lemmas on texts, and on lists of texts that may repeat one.
use Rattle.std.proofs.Common.{◌≡◌, Bool, true, false, List, [], ◌∷◌, Decides, IsPermutation, Equal, ap, sym, ◌∙◌, refl}
use Rattle.std.specs.Cmp.{Equal-is}
use Rattle.std.specs.List.{list_any, AllByRecursion, IsDistinct}
use Rattle.std.proofs.lemmas.Bool.{or_parts, or_from}
use Rattle.std.proofs.lemmas.Cmp.{nat_list_cmp_total, eq_by_cmp_equiv}
use Rattle.std.proofs.lemmas.List.Sorted.{IsPermutation-sym}
use Rattle.std.proofs.lemmas.Map.Keys.{IsDistinct-IsPermutation}
use Rattle.std.proofs.lemmas.Map.Lookups.{exact_bytes}
use Rattle.filing_model.specs.Common.Text.{Text, text_cmp, text_eq, has_repeats}

pub text_cmp-Equal : (x y : Text) → text_cmp x y ≡ Equal → x ≡ y
text_cmp-Equal = exact_bytes

pub text_eq-refl : (x : Text) → text_eq x x ≡ true
text_eq-refl = (eq_by_cmp_equiv nat_list_cmp_total).refl

pub text_eq-sym : (x y : Text) → text_eq x y ≡ text_eq y x
text_eq-sym = (eq_by_cmp_equiv nat_list_cmp_total).symm

pub text_decides : (x y : Text) → Decides (text_eq x y) (x ≡ y)
text_decides x y = (λ e. text_cmp-Equal x y ((Equal-is (text_cmp x y)).0 e), λ e. ap (text_eq x) (sym e) ∙ text_eq-refl x)

pub text_same : (x y : Text) → text_eq x y ≡ true → x ≡ y
text_same x y e = (text_decides x y).0 e

-- ---- no text stands twice: the test and std's fact

none_equal : (x : Text) (ts : List Text) → list_any (text_eq x) ts ≡ false → AllByRecursion (λ y. text_eq x y ≡ false) ts
none_equal x [] h = tt
none_equal x (t ∷ ts) h = let parts = or_parts (text_eq x t) (list_any (text_eq x) ts) h in (parts.0, none_equal x ts parts.1)

any_from_none : (x : Text) (ts : List Text) → AllByRecursion (λ y. text_eq x y ≡ false) ts → list_any (text_eq x) ts ≡ false
any_from_none x [] h = refl
any_from_none x (t ∷ ts) h = or_from (text_eq x t) (list_any (text_eq x) ts) h.0 (any_from_none x ts h.1)

pub IsDistinct-from_repeats : (ts : List Text) → has_repeats ts ≡ false → IsDistinct text_eq ts
unfolding IsDistinct
IsDistinct-from_repeats [] h = tt
IsDistinct-from_repeats (t ∷ ts) h = let parts = or_parts (list_any (text_eq t) ts) (has_repeats ts) h in (none_equal t ts parts.0, IsDistinct-from_repeats ts parts.1)

pub repeats_from_IsDistinct : (ts : List Text) → IsDistinct text_eq ts → has_repeats ts ≡ false
unfolding IsDistinct
repeats_from_IsDistinct [] h = refl
repeats_from_IsDistinct (t ∷ ts) h = or_from (list_any (text_eq t) ts) (has_repeats ts) (any_from_none t ts h.0) (repeats_from_IsDistinct ts h.1)

-- two tests that fail together
fail_alike : (a b : Bool) → (a ≡ false → b ≡ false) → (b ≡ false → a ≡ false) → a ≡ b
fail_alike true true f g = refl
fail_alike true false f g = g refl
fail_alike false b f g = sym (f refl)

moved : (xs ys : List Text) → IsPermutation xs ys → has_repeats xs ≡ false → has_repeats ys ≡ false
moved xs ys p h = repeats_from_IsDistinct ys (IsDistinct-IsPermutation text_eq text_eq-sym xs ys p (IsDistinct-from_repeats xs h))

-- texts that change places repeat one as before
pub has_repeats-IsPermutation : (xs ys : List Text) → IsPermutation xs ys → has_repeats xs ≡ has_repeats ys
has_repeats-IsPermutation xs ys p = fail_alike _ _ (moved xs ys p) (moved ys xs (IsPermutation-sym xs ys p))
