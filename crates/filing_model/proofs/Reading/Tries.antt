-- A loop that reads item by item: each item goes from the rest to the front.
use Rattle.std.proofs.Common.{◌≡◌, List, [], ◌∷◌, ◌++◌, Result, Ok, Err, ap, sym, ◌∙◌, refl, append_assoc}
use Rattle.filing_model.specs.Common.Try.{◌>>=◌, each, with_front}

front_grows : {B E : Type 0} (front : List B) (y : B) (rest : Result (List B) E) → with_front (front ++ y ∷ []) rest ≡ with_front front (rest >>= λ ys. Ok (y ∷ ys))
front_grows front y (Ok ys) = ap (λ l. Ok l) (append_assoc front (y ∷ []) ys)
front_grows front y (Err e) = refl

pub each_more : {A B E : Type 0} (f : A → Result B E) (front : List B) (x : A) (y : B) (xs : List A) → f x ≡ Ok y → with_front (front ++ y ∷ []) (each f xs) ≡ with_front front (each f (x ∷ xs))
each_more f front x y xs h = front_grows front y (each f xs) ∙ ap (λ r. with_front front (r >>= λ z. each f xs >>= λ ys. Ok (z ∷ ys))) (sym h)

-- the first item that is refused is the fault of all
pub each_refused : {A B E : Type 0} (f : A → Result B E) (front : List B) (x : A) (e : E) (xs : List A) → f x ≡ Err e → with_front front (each f (x ∷ xs)) ≡ Err e
each_refused f front x e xs h = ap (λ r. with_front front (r >>= λ z. each f xs >>= λ ys. Ok (z ∷ ys))) h
