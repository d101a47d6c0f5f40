-- What is found first in maps that answer alike is the same.
use Rattle.std.proofs.Common.{◌≡◌, ◌∙◌, ap, sym, refl, Bool, true, false, cond, T, List, [], ◌∷◌, filter_map, Option, Some, None}
use Rattle.std.proofs.Common.{option_map, option_and_then, is_lt}
use Rattle.std.specs.List.{cons_option, list_all}
use Rattle.std.specs.Option.{option_or}
use Rattle.std.specs.Cmp.Lexicographic.{nat_list_cmp_total}
use Rattle.std.specs.FinMap.Entries.{find, is_sorted, below_all, same_entries}
use Rattle.std.proofs.lemmas.Bool.{and_parts}
use Rattle.filing_model.specs.Common.Text.{Text, text_cmp, text_eq}
use Rattle.filing_model.proofs.Common.Texts.{text_same, text_cmp-Equal, text_eq-refl}
use Rattle.filing_model.proofs.Common.Tests.{both_hold, first_holds, second_holds}
use Rattle.filing_model.proofs.Common.MapsOfLists.{tied_is_not_found}
use Rattle.filing_model.specs.Sessions.Changes.{find_map}
use Rattle.filing_laws.proofs.Lists.EachElement.{Each, each_mapped}

-- ---- entries are found

-- what is found behind the first entry of a sorted list is found in the list
pub found_behind : {X : Type 0} (e : Text × X) (es : List (Text × X)) (q : Text) (x : X) → T (below_all text_cmp e.0 es) → find text_cmp q es ≡ Some x
    → find text_cmp q (e ∷ es) ≡ Some x
found_behind e es q x below found = by (text_eq q e.0) refl
  where
    by : (b : Bool) → text_eq q e.0 ≡ b → cond b (Some e.1) (find text_cmp q es) ≡ Some x
    by true same =
        let apart : None ≡ Some x = sym (tied_is_not_found q e.0 es same below) ∙ found in
        cc
    by false other = found

pub found_first : {X : Type 0} (e : Text × X) (es : List (Text × X)) → find text_cmp e.0 (e ∷ es) ≡ Some e.1
found_first e es = ap (λ b. cond b (Some e.1) (find text_cmp e.0 es)) (text_eq-refl e.0)

-- nothing is found behind the first entry under its key
pub none_behind : {X : Type 0} (q : Text) (e : Text × X) (es : List (Text × X)) → T (is_sorted text_cmp (e ∷ es)) → text_eq q e.0 ≡ true
    → find text_cmp q es ≡ None
none_behind q e es sorted same = tied_is_not_found q e.0 es same (first_holds (below_all text_cmp e.0 es) (is_sorted text_cmp es) sorted)

-- in a sorted list each entry is the one that is found under its key
pub each_is_found : {X : Type 0} (es : List (Text × X)) → T (is_sorted text_cmp es) → Each (λ e. find text_cmp e.0 es ≡ Some e.1) es
each_is_found [] sorted = tt
each_is_found {X} (e ∷ es) sorted = (
  found_first e es,
  each_mapped (λ x. find text_cmp x.0 es ≡ Some x.1) (λ x. find text_cmp x.0 (e ∷ es)
      ≡ Some x.1) (λ x found. found_behind e es x.0 x.1
      (first_holds (below_all text_cmp e.0 es) (is_sorted text_cmp es) sorted) found)
      es (each_is_found es (second_holds (below_all text_cmp e.0 es) (is_sorted text_cmp es) sorted)),
)

-- what passes of each entry passes of one that is found
pub all_found : {X : Type 0} (test : X → Bool) (key : Text) (x : X) (es : List (Text × X)) → list_all (λ e. test e.1) es ≡ true → find text_cmp key es ≡ Some x
    → test x ≡ true
all_found test key x [] all found = let apart : None ≡ Some x = found in cc
all_found test key x (e ∷ es) all found =
    let parts = and_parts (test e.1) (list_all (λ e. test e.1) es) all in
    by (all_found test key x es parts.1) parts.0 (text_eq key e.0) found
  where
    by : (find text_cmp key es ≡ Some x → test x ≡ true) → test e.1 ≡ true → (b : Bool) → cond b (Some e.1) (find text_cmp key es) ≡ Some x → test x ≡ true
    by later here true is = let same : e.1 ≡ x = cc in ap test (sym same) ∙ here
    by later here false is = later is

-- ---- what is made of each entry

module _ {X B : Type 0} (f : Text → X → Option B) where
  -- what is found of an entry, under its key
  abbrev pub keyed : Text × X → Option (Text × B)
  keyed e = option_map (λ b. (e.0, b)) (f e.0 e.1)

  abbrev made : List (Text × X) → List (Text × B)
  made es = filter_map keyed es

  below-made : (x : Text) (es : List (Text × X)) → T (below_all text_cmp x es) → T (below_all text_cmp x (made es))
  below-made x [] below = tt
  below-made x (e ∷ es) below = by (f e.0 e.1) (below-made x es (second_holds (is_lt (text_cmp x e.0)) (below_all text_cmp x es) below))
    where
      by : (o : Option B) → T (below_all text_cmp x (made es)) → T (below_all text_cmp x (cons_option (option_map (λ b. (e.0, b)) o) (made es)))
      by None later = later
      by (Some b) later = both_hold _ _ (first_holds (is_lt (text_cmp x e.0)) (below_all text_cmp x es) below) later

  sorted-made : (es : List (Text × X)) → T (is_sorted text_cmp es) → T (is_sorted text_cmp (made es))
  sorted-made [] sorted = tt
  sorted-made (e ∷ es) sorted =
      by (f e.0 e.1) (below-made e.0 es (first_holds (below_all text_cmp e.0 es) (is_sorted text_cmp es) sorted))
      (sorted-made es (second_holds (below_all text_cmp e.0 es) (is_sorted text_cmp es) sorted))
    where
      by : (o : Option B) → T (below_all text_cmp e.0 (made es)) → T (is_sorted text_cmp (made es))
          → T (is_sorted text_cmp (cons_option (option_map (λ b. (e.0, b)) o) (made es)))
      by None below later = later
      by (Some b) below later = both_hold _ _ below later

  find-made : (q : Text) (es : List (Text × X)) → T (is_sorted text_cmp es) → find text_cmp q (made es) ≡ option_and_then (f q) (find text_cmp q es)
  find-made q [] sorted = refl
  find-made q (e ∷ es) sorted =
      by (text_eq q e.0) refl (f e.0 e.1) refl (find-made q es (second_holds (below_all text_cmp e.0 es) (is_sorted text_cmp es) sorted))
    where
      by : (b : Bool) → text_eq q e.0 ≡ b → (o : Option B) → f e.0 e.1 ≡ o → find text_cmp q (made es) ≡ option_and_then (f q) (find text_cmp q es)
          → find text_cmp q (cons_option (option_map (λ b. (e.0, b)) o) (made es)) ≡ option_and_then (f q) (cond b (Some e.1) (find text_cmp q es))
      by true same None is later = later ∙ ap (option_and_then (f q)) (none_behind q e es sorted same) ∙ sym (ap (λ k. f k e.1) (text_same q e.0 same) ∙ is)
      by true same (Some x) is later = ap (λ b. cond b (Some x) (find text_cmp q (made es))) same ∙ sym (ap (λ k. f k e.1) (text_same q e.0 same) ∙ is)
      by false other None is later = later
      by false other (Some x) is later = ap (λ b. cond b (Some x) (find text_cmp q (made es))) other ∙ later

-- ---- the first

abbrev front : {A : Type 0} → List A → Option A
front [] = None
front (x ∷ xs) = Some x

find_map-front : {A B : Type 0} (g : A → Option B) (xs : List A) → find_map g xs ≡ front (filter_map g xs)
find_map-front g [] = refl
find_map-front {A} {B} g (x ∷ xs) = by (g x) (find_map-front g xs)
  where
    by : (o : Option B) → find_map g xs ≡ front (filter_map g xs) → option_or o (find_map g xs) ≡ front (cons_option o (filter_map g xs))
    by None later = later
    by (Some y) later = refl

pub first_same : {X Y B : Type 0} (f : Text → X → Option B) (g : Text → Y → Option B) (es : List (Text × X)) (ys : List (Text × Y)) → T (is_sorted text_cmp es)
    → T (is_sorted text_cmp ys)
    → ((q : Text) → option_and_then (f q) (find text_cmp q es) ≡ option_and_then (g q) (find text_cmp q ys))
    → find_map (keyed f) es ≡ find_map (keyed g) ys
first_same f g es ys es_sorted ys_sorted alike =
    find_map-front (keyed f) es
    ∙ ap front (same_entries text_cmp nat_list_cmp_total text_cmp-Equal (made f es) (made g ys)
    (sorted-made f es es_sorted) (sorted-made g ys ys_sorted) (λ q. find-made f q es es_sorted ∙ alike q
    ∙ sym (find-made g q ys ys_sorted)))
    ∙ sym (find_map-front (keyed g) ys)
