-- What is made of the keys of two maps is the same where nothing is made of a key that either lacks.
use Rattle.std.proofs.Common.{◌≡◌, ◌∙◌, ap, sym, refl, subst, T, Bool, true, false, cond, ◌&&◌, List, [], ◌∷◌}
use Rattle.std.proofs.Common.{◌++◌, map, filter, Option, Some, None, option_map, is_lt}
use Rattle.std.specs.Prelude.{⊤}
use Rattle.std.specs.List.{flat_map}
use Rattle.std.specs.Cmp.Lexicographic.{nat_list_cmp_total}
use Rattle.std.specs.FinMap.Entries.{find, is_sorted, below_all, same_entries}
use Rattle.filing_model.specs.Common.Text.{Text, text_cmp, text_eq}
use Rattle.filing_model.specs.Common.TextMap.{TextMap, from_entries, get, keys}
use Rattle.filing_model.proofs.Common.Texts.{text_cmp-Equal}
use Rattle.filing_model.proofs.Common.TextMaps.{get-from_entries}
use Rattle.filing_model.proofs.Common.FilteredEntries.{only, sorted-filter, find-filter}
use Rattle.version_differences.specs.Differences.{marked, keys_of_either}

-- ---- keys alone

abbrev mark : {X : Type 0} → X → ⊤
mark x = tt

abbrev names : {X : Type 0} → List (Text × X) → List Text
names es = map (λ e. e.0) es

names_marked : (ks : List Text) → names (marked ks) ≡ ks
names_marked [] = refl
names_marked (k ∷ ks) = ap (λ rest. k ∷ rest) (names_marked ks)

find_marked : {X : Type 0} (q : Text) (es : List (Text × X)) → find text_cmp q (marked (names es)) ≡ option_map mark (find text_cmp q es)
find_marked q [] = refl
find_marked {X} q (e ∷ es) = by (text_eq q e.0) (find_marked q es)
  where
    by : (b : Bool) → find text_cmp q (marked (names es)) ≡ option_map mark (find text_cmp q es)
        → cond b (Some tt) (find text_cmp q (marked (names es))) ≡ option_map mark (cond b (Some e.1) (find text_cmp q es))
    by true rest = refl
    by false rest = rest

below_marked : {X : Type 0} (x : Text) (es : List (Text × X)) → below_all text_cmp x (marked (names es)) ≡ below_all text_cmp x es
below_marked x [] = refl
below_marked x (e ∷ es) = ap (λ b. is_lt (text_cmp x e.0) && b) (below_marked x es)

sorted_marked : {X : Type 0} (es : List (Text × X)) → is_sorted text_cmp (marked (names es)) ≡ is_sorted text_cmp es
sorted_marked [] = refl
sorted_marked (e ∷ es) = λ i. below_marked e.0 es i && sorted_marked es i

-- ---- what is made of keys

abbrev some_made : {A : Type 0} → List A → Bool
some_made [] = false
some_made (x ∷ xs) = true

module _ {A : Type 0} (f : Text → List A) where
  abbrev kept : List (Text × ⊤) → List (Text × ⊤)
  kept es = filter (λ e. some_made (f e.0)) es

  flat_kept : (es : List (Text × ⊤)) → flat_map f (names (kept es)) ≡ flat_map f (names es)
  flat_kept [] = refl
  flat_kept (e ∷ es) = by (f e.0) refl (flat_kept es)
    where
      by : (xs : List A) → f e.0 ≡ xs → flat_map f (names (kept es)) ≡ flat_map f (names es)
          → flat_map f (names (cond (some_made xs) (e ∷ kept es) (kept es))) ≡ f e.0 ++ flat_map f (names es)
      by [] none rest = rest ∙ ap (λ ys. ys ++ flat_map f (names es)) (sym none)
      by (x ∷ xs) some rest = ap (λ ys. f e.0 ++ ys) rest

  module _ {X Y : Type 0} (m : TextMap X) (n : TextMap Y) (none_m : (key : Text) → get m key ≡ None → f key ≡ [])
      (none_n : (key : Text) → get n key ≡ None → f key ≡ []) where
    never : {Z : Type 0} (o : Option Z) → only (λ z. false) o ≡ None
    never None = refl
    never (Some z) = refl

    found : {Z : Type 0} (o : Option Z) (x : A) (xs : List A) (q : Text) → f q ≡ x ∷ xs → (o ≡ None → f q ≡ []) → option_map mark o ≡ Some tt
    found None x xs q some none = let apart : x ∷ xs ≡ [] = sym some ∙ none refl in cc
    found (Some z) x xs q some none = refl

    alike : (q : Text) → only (λ z. some_made (f q)) (find text_cmp q (marked (keys m))) ≡ only (λ z. some_made (f q)) (find text_cmp q (marked (keys n)))
    alike q = by (f q) refl
      where
        by : (xs : List A) → f q ≡ xs
            → only (λ z. some_made xs) (find text_cmp q (marked (keys m))) ≡ only (λ z. some_made xs) (find text_cmp q (marked (keys n)))
        by [] none = never (find text_cmp q (marked (keys m))) ∙ sym (never (find text_cmp q (marked (keys n))))
        by (x ∷ xs) some =
            ap (only (λ z. true))
            (find_marked q m.entries ∙ found (get m q) x xs q some (none_m q) ∙ sym (found (get n q) x xs q some (none_n q)) ∙ sym (find_marked q n.entries))

    same_kept : kept (marked (keys m)) ≡ kept (marked (keys n))
    same_kept =
        let sorted_m = subst T (sym (sorted_marked m.entries)) m.sorted in
        let sorted_n = subst T (sym (sorted_marked n.entries)) n.sorted in
        let test : Text → ⊤ → Bool = λ key z. some_made (f key) in
        same_entries text_cmp nat_list_cmp_total text_cmp-Equal (kept (marked (keys m))) (kept (marked (keys n)))
        (sorted-filter text_cmp test (marked (keys m)) sorted_m) (sorted-filter text_cmp test (marked (keys n)) sorted_n)
        (λ q. find-filter text_cmp test text_cmp-Equal q (marked (keys m)) sorted_m ∙ alike q
        ∙ sym (find-filter text_cmp test text_cmp-Equal q (marked (keys n)) sorted_n))

    -- the same is made of the keys of both
    pub keys_alike : flat_map f (keys m) ≡ flat_map f (keys n)
    keys_alike =
        sym (ap (flat_map f) (names_marked (keys m))) ∙ sym (flat_kept (marked (keys m))) ∙ ap (λ es. flat_map f (names es)) same_kept
        ∙ flat_kept (marked (keys n)) ∙ ap (flat_map f) (names_marked (keys n))

-- ---- the keys of either of two maps

parts : {X : Type 0} (o : Option X) → option_map mark o ≡ None → o ≡ None
parts None none = refl
parts (Some x) none = cc

find_in_both : (q : Text) (ks ls : List Text) → find text_cmp q (marked (ks ++ ls)) ≡ None
    → (find text_cmp q (marked ks) ≡ None) × (find text_cmp q (marked ls) ≡ None)
find_in_both q [] ls none = (refl, none)
find_in_both q (k ∷ ks) ls none = by (text_eq q k) (find_in_both q ks ls) none
  where
    by : (b : Bool) → (find text_cmp q (marked (ks ++ ls)) ≡ None → (find text_cmp q (marked ks) ≡ None) × (find text_cmp q (marked ls) ≡ None))
        → cond b (Some tt) (find text_cmp q (marked (ks ++ ls))) ≡ None
        → (cond b (Some tt) (find text_cmp q (marked ks)) ≡ None) × (find text_cmp q (marked ls) ≡ None)
    by true later some = cc
    by false later none = later none

-- a key that is none of them is in neither
pub in_neither : {X Y : Type 0} (m : TextMap X) (n : TextMap Y) (q : Text) → get (from_entries (marked (keys m ++ keys n))) q ≡ None
    → (get m q ≡ None) × (get n q ≡ None)
in_neither m n q none =
    let both = find_in_both q (keys m) (keys n) (sym (get-from_entries (marked (keys m ++ keys n)) q) ∙ none) in
    (parts (get m q) (sym (find_marked q m.entries) ∙ both.0), parts (get n q) (sym (find_marked q n.entries) ∙ both.1))

-- what is made of these keys is what is made of those of any map that lacks none of which something is made
pub made_of_either : {A X Y Z : Type 0} (f : Text → List A) (m : TextMap X) (n : TextMap Y) (places : TextMap Z)
    → ((key : Text) → get m key ≡ None → get n key ≡ None → f key ≡ []) → ((key : Text) → get places key ≡ None → f key ≡ [])
    → flat_map f (keys places) ≡ flat_map f (keys_of_either m n)
made_of_either f m n places neither none =
    keys_alike f places (from_entries (marked (keys m ++ keys n))) none (λ q gone. let both = in_neither m n q gone in neither q both.0 both.1)
