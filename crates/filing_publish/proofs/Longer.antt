-- The longer of two beginnings of one list.
use Rattle.std.proofs.Common.{◌≡◌, sym, refl, subst, ◌≤◌, List, length, inl, inr, Result, Ok, Err, IfOk}
use mathlib.Core.List.{IsPrefix}
use Rattle.filing_model.specs.Sessions.Repository.{Repository}
use Rattle.filing_publish.specs.Lists.{Listed, IsLonger}
use Rattle.filing_publish.proofs.Beginnings.{prefix_self, prefix_shorter}

pub first_longer : (xs ys zs : List Repository) → IsPrefix xs zs → IsPrefix ys zs → length ys ≤ length xs → IsLonger xs ys xs
first_longer xs ys zs p q le = record { either_is = inl refl; one_begins = prefix_self xs; two_begins = prefix_shorter ys xs zs q p le }

pub second_longer : (xs ys zs : List Repository) → IsPrefix xs zs → IsPrefix ys zs → length xs ≤ length ys → IsLonger xs ys ys
second_longer xs ys zs p q le = record { either_is = inr refl; one_begins = prefix_shorter xs ys zs p q le; two_begins = prefix_self ys }

-- what holds of an edition holds of its clone
pub of_clone : {F : Type 0} (P : Listed → Type 0) (r : Result Listed F) (e : Listed) → IfOk r (λ x. x ≡ e) → P e → IfOk r P
of_clone P (Ok x) e is holds = subst P (sym is) holds
of_clone P (Err f) e is holds = tt
