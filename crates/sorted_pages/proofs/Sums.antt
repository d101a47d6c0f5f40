-- Sums of lists, item by item.
use Rattle.std.proofs.Common.{◌≡◌, ◌∙◌, ap, sym, ℕ, ◌+◌, ◌<◌, ◌≤◌, List, [], ◌∷◌, ◌++◌, append_assoc, take, length, get_or}
use Rattle.std.proofs.lemmas.List.{take_more, take_all}
use Rattle.std.specs.List.{flat_map}
use Rattle.sorted_pages.proofs.Flats.{flat_map-push}

-- what stands at the end after one more item, and after all
pub members_more : {X E : Type 0} (members : X → List E) (before : List E) (items : List X) (i : ℕ) (x : X) → i < length items
    → x ≡ get_or items i x
    → (before ++ flat_map members (take i items)) ++ members x ≡ before ++ flat_map members (take (i + 1) items)
members_more members before items i x h read =
    append_assoc before (flat_map members (take i items)) (members x)
    ∙ ap (λ es. before ++ es) (sym (flat_map-push members (take i items) x)
    ∙ sym (ap (flat_map members) (take_more items i x h ∙ ap (λ z. take i items ++ z ∷ []) (sym read))))

pub members_all : {X E : Type 0} (members : X → List E) (before : List E) (items : List X) (i : ℕ) → length items ≤ i
    → before ++ flat_map members (take i items) ≡ before ++ flat_map members items
members_all members before items i h = ap (λ xs. before ++ flat_map members xs) (take_all i items h)

-- five parts, one after another
pub in_order : {E : Type 0} (xs a b c d e : List E) → ((((xs ++ a) ++ b) ++ c) ++ d) ++ e ≡ xs ++ (a ++ (b ++ (c ++ (d ++ e))))
in_order xs a b c d e =
    append_assoc (((xs ++ a) ++ b) ++ c) d e ∙ append_assoc ((xs ++ a) ++ b) c (d ++ e)
    ∙ append_assoc (xs ++ a) b (c ++ (d ++ e)) ∙ append_assoc xs a (b ++ (c ++ (d ++ e)))
