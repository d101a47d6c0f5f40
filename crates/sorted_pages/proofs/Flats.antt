-- The items of a level one after another.
use Rattle.std.proofs.Common.{◌≡◌, ◌∙◌, ap, sym, refl, List, [], ◌∷◌, ◌++◌, append_assoc, append-nil, length, arith, ◌<◌}
use Rattle.std.specs.declared.sync.Arc.{Arc}
use Rattle.std.specs.List.{flat_map}
use Rattle.sorted_pages.specs.Pages.{singleton, of_block, IsFirstBlock}

pub flat_map-append : {B X : Type 0} (v : B → List X) (xs ys : List B) → flat_map v (xs ++ ys) ≡ flat_map v xs ++ flat_map v ys
flat_map-append v [] ys = refl
flat_map-append v (x ∷ xs) ys = ap (λ zs. v x ++ zs) (flat_map-append v xs ys) ∙ sym (append_assoc (v x) (flat_map v xs) (flat_map v ys))

pub flat_map-push : {B X : Type 0} (v : B → List X) (xs : List B) (x : B) → flat_map v (xs ++ x ∷ []) ≡ flat_map v xs ++ v x
flat_map-push v xs x = flat_map-append v xs (x ∷ []) ∙ ap (λ ys. flat_map v xs ++ ys) (append-nil (v x))

pub singles : {E : Type 0} (es : List E) → flat_map singleton es ≡ es
singles [] = refl
singles (e ∷ es) = ap (λ xs. e ∷ xs) (singles es)

-- the first block, and the others
pub first_block : {X E Z : Type 0} (v : X → List E) (blocks rest : List (Arc (List X) Z)) (items : List X) → IsFirstBlock blocks items rest
    → flat_map (of_block v) blocks ≡ flat_map v items ++ flat_map (of_block v) rest
first_block v [] rest items f = sym (λ i. flat_map v (f.0 i) ++ flat_map (of_block v) (f.1 i))
first_block v (block ∷ blocks) rest items f = sym (λ i. flat_map v (f.0 i) ++ flat_map (of_block v) (f.1 i))

-- blocks in three parts
pub parted : {X E Z : Type 0} (v : X → List E) (left before from rest : List (Arc (List X) Z)) (items : List X) → left ≡ before ++ from
    → IsFirstBlock from items rest → flat_map (of_block v) left ≡ flat_map (of_block v) before ++ (flat_map v items ++ flat_map (of_block v) rest)
parted v left before from rest items e f =
    ap (flat_map (of_block v)) e ∙ flat_map-append (of_block v) before from ∙ ap (λ es. flat_map (of_block v) before ++ es) (first_block v from rest items f)

pub no_items : {X : Type 0} (xs : List X) → length xs ≡ 0 → xs ≡ []
no_items [] h = refl
no_items (x ∷ xs) h = absurd (omega (arith, h))

-- the first items, or those of the first block where there are none
pub refilled : {X E Z : Type 0} (v : X → List E) (first : List X) (blocks : List (Arc (List X) Z)) (items : List X)
    (rest : List (Arc (List X) Z)) (more : List E)
    → (length first ≡ 0 → IsFirstBlock blocks items rest) → (0 < length first → (items ≡ first) × (rest ≡ blocks))
    → flat_map v items ++ (flat_map (of_block v) rest ++ more) ≡ flat_map v first ++ (flat_map (of_block v) blocks ++ more)
refilled v [] blocks items rest more e f =
    sym (append_assoc (flat_map v items) (flat_map (of_block v) rest) more) ∙ ap (λ es. es ++ more) (sym (first_block v blocks rest items (e refl)))
refilled v (x ∷ xs) blocks items rest more e f =
    let same : (items ≡ x ∷ xs) × (rest ≡ blocks) = f (omega arith) in
    λ i. flat_map v (same.0 i) ++ (flat_map (of_block v) (same.1 i) ++ more)

-- a list that others follow, from the list alone
pub followed : {E : Type 0} (xs ys zs : List E) → xs ++ [] ≡ zs → xs ++ ys ≡ zs ++ ys
followed xs ys zs e = ap (λ ws. ws ++ ys) (sym (append-nil xs) ∙ e)
