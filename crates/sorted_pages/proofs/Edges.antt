-- The place where a test stops to hold.
use Rattle.std.proofs.Common.{◌≡◌, ◌∙◌, ap, sym, subst, refl, ℕ, ◌+◌, ◌<◌, arith, Bool, true, false, not, cond, ◌&&◌}
use Rattle.std.proofs.Common.{◌||◌, ◌-◌, T, suc, List, [], ◌∷◌, ◌++◌, take, drop, length, get_or}
use Rattle.std.proofs.lemmas.List.{take_more}
use Rattle.sorted_pages.specs.Edges.{answer_of, ends_with, begins_with, first_passes, last_passes, is_before_edge}

pub ends_with-push : {X : Type 0} (p : X → Bool) (xs : List X) (x : X) → ends_with p (xs ++ x ∷ []) ≡ p x
ends_with-push p [] x = refl
ends_with-push p (y ∷ []) x = refl
ends_with-push p (y ∷ z ∷ zs) x = ends_with-push p (z ∷ zs) x

pub last_passes-push : {X : Type 0} (p : X → Bool) (xs : List X) (x : X) → last_passes p (xs ++ x ∷ []) ≡ p x
last_passes-push p [] x = refl
last_passes-push p (y ∷ []) x = refl
last_passes-push p (y ∷ z ∷ zs) x = last_passes-push p (z ∷ zs) x

pub answered : (b : Bool) (p q : Bool) → T (answer_of b p q) → b ≡ true → T p
answered b p q h e = subst (λ c. T (cond c p q)) e h

pub refused : (b : Bool) (p q : Bool) → T (answer_of b p q) → b ≡ false → T q
refused b p q h e = subst (λ c. T (cond c p q)) e h

-- one more item that passes, and one that fails
pub passed_more : {X : Type 0} (p : X → Bool) (xs : List X) (i : ℕ) (x : X) → i < length xs → x ≡ get_or xs i x → T (p x) → T (ends_with p (take (i + 1) xs))
passed_more p xs i x h read e =
    subst T (sym (ap (ends_with p) (take_more xs i x h) ∙ ends_with-push p (take i xs) (get_or xs i x) ∙ ap p (sym read))) e

pub both : (a b : Bool) → T a → T b → T (a && b)
both true b g h = h
both false b g h = g

pub first : (a b : Bool) → T (a && b) → T a
first true b h = tt
first false b h = h

pub second : (a b : Bool) → T (a && b) → T b
second true b h = h
second false b h = absurd h

pub either_left : (a b : Bool) → T a → T (a || b)
either_left true b h = tt
either_left false b h = absurd h

pub either_right : (a b : Bool) → T b → T (a || b)
either_right true b h = tt
either_right false b h = h

-- the last item that passes is the first of the second list
edge_after : {X : Type 0} (p q : X → Bool) (x : X) (xs back : List X) → T (ends_with p (x ∷ xs)) → T (begins_with q back)
    → T (first_passes p (drop (length xs) ((x ∷ xs) ++ back)) && begins_with q (drop 1 (drop (length xs) ((x ∷ xs) ++ back))))
edge_after p q x [] back g h = both _ _ g h
edge_after p q x (y ∷ ys) back g h = edge_after p q y ys back g h

pub edge_before : {X : Type 0} (p q : X → Bool) (front back : List X) → T (ends_with p front) → T (begins_with q back)
    → T (is_before_edge p q (take (length front - 1) (front ++ back)) (drop (length front - 1) (front ++ back)))
edge_before p q [] back g h = either_left (begins_with q back) _ h
edge_before p q (x ∷ xs) back g h =
    let n : suc (length xs) - 1 ≡ length xs = omega arith in
    subst (λ k. T (is_before_edge p q (take k ((x ∷ xs) ++ back)) (drop k ((x ∷ xs) ++ back)))) (sym n) (either_right _ _ (edge_after p q x xs back g h))

pub edge_split : {X : Type 0} (p q : X → Bool) (front back items before from : List X) (n : ℕ) → items ≡ front ++ back
    → n ≡ length front - 1 → before ≡ take n items → from ≡ drop n items
    → T (ends_with p front) → T (begins_with q back) → T (is_before_edge p q before from)
edge_split p q front back items before from n e m b f g h =
    subst T (sym ((λ i. is_before_edge p q (b i) (f i)) ∙ ap (λ k. is_before_edge p q (take k items) (drop k items)) m
    ∙ ap (λ xs. is_before_edge p q (take (length front - 1) xs) (drop (length front - 1) xs)) e))
    (edge_before p q front back g h)

-- what holds entries, of which the last passes
pub answered_at_last : {X : Type 0} (b : Bool) (p q : X → Bool) (xs rest : List X) (x : X) → xs ≡ rest ++ x ∷ []
    → T (answer_of b (p x) (q x)) → T (answer_of b (last_passes p xs) (last_passes q xs))
answered_at_last b p q xs rest x e h =
    subst (λ ys. T (cond b (last_passes p ys) (last_passes q ys))) (sym e)
    (subst (λ (r : Bool). T (cond b r (last_passes q (rest ++ x ∷ [])))) (sym (last_passes-push p rest x))
    (subst (λ (r : Bool). T (cond b (p x) r)) (sym (last_passes-push q rest x)) h))

pub answers : (b c : Bool) → b ≡ c → T (answer_of b c (not c))
answers b true e = subst (λ d. T (answer_of d true false)) (sym e) tt
answers b false e = subst (λ d. T (answer_of d false true)) (sym e) tt
