-- What changes make of a list in byte order of names is what they make of its map.
use Rattle.std.proofs.Common.{◌≡◌, ◌∙◌, ap, sym, refl, subst, Bool, true, false, cond, T, List, [], ◌∷◌, map, Option, Some, None, is_eq, true≢false}
use Rattle.std.specs.FinMap.Entries.{below_all, is_sorted}
use Rattle.sorted_pages.specs.declared.apply.Edit.{Edit}
use Rattle.sorted_pages.specs.declared.apply.Edit.TheVariants.{Put, Remove}
use Rattle.sorted_pages.specs.Changes.{entry_of, with_change, with_changes}
use Rattle.filing_model.specs.Common.Text.{Text, text_cmp, text_eq}
use Rattle.filing_model.specs.Common.TextMap.{TextMap, get, from_entries}
use Rattle.filing_model.proofs.Common.TextMaps.{same_map, same_list, get-insert, get-remove}
use Rattle.filing_model.proofs.Common.Texts.{text_same}
use Rattle.filing_model.proofs.Common.MapsOfLists.{from_entries-sorted}
use Rattle.filing_model.proofs.Common.Tests.{first_holds, second_holds, less_from_is_lt}
use Rattle.text_map.specs.MapChanges.{map_with_change, map_with_changes}
use Rattle.text_map.proofs.NamedLists.{name_cmp, put-keyed, where_key-keyed}

either_order : {A : Type 0} (a b : Bool) (x y z : A) → (a ≡ true → b ≡ true → ⊥) → cond a x (cond b y z) ≡ cond b y (cond a x z)
either_order true true x y z apart = absurd (apart refl refl)
either_order true false x y z apart = refl
either_order false b x y z apart = refl

one_name : (q x y : Text) → text_eq x y ≡ false → text_eq q x ≡ true → text_eq q y ≡ true → ⊥
one_name q x y apart a b = true≢false (sym b ∙ ap (λ t. text_eq t y) (text_same q x a) ∙ apart)

module _ {X : Type 0} where
  abbrev name_of : Edit (Text × X) → Text
  name_of c = (entry_of c).0

  -- what stands at its name after a change
  abbrev given : Edit (Text × X) → Option X
  given (Put e) = Some e.1
  given (Remove e) = None

  pub get_with_change : (c : Edit (Text × X)) (m : TextMap X) (q : Text) → get (map_with_change c m) q ≡ cond (text_eq q (name_of c)) (given c) (get m q)
  get_with_change (Put e) m q = get-insert m e.0 e.1 q
  get_with_change (Remove e) m q = get-remove m e.0 q

  -- ---- two changes of different names in either order

  two_changes : (c d : Edit (Text × X)) (m : TextMap X) → text_eq (name_of c) (name_of d) ≡ false → map_with_change c (map_with_change d m) ≡ map_with_change d (map_with_change c m)
  two_changes c d m apart = same_map _ _ (λ q.
      get_with_change c (map_with_change d m) q
      ∙ ap (λ o. cond (text_eq q (name_of c)) (given c) o) (get_with_change d m q)
      ∙ either_order (text_eq q (name_of c)) (text_eq q (name_of d)) (given c) (given d) (get m q) (one_name q (name_of c) (name_of d) apart)
      ∙ ap (λ o. cond (text_eq q (name_of d)) (given d) o) (sym (get_with_change c m q))
      ∙ sym (get_with_change d (map_with_change c m) q))

  -- ---- one after another, the first first

  abbrev in_turn : List (Edit (Text × X)) → TextMap X → TextMap X
  in_turn [] m = m
  in_turn (c ∷ cs) m = in_turn cs (map_with_change c m)

  later : (c : Edit (Text × X)) (cs : List (Edit (Text × X))) (m : TextMap X) → T (below_all text_cmp (name_of c) (map entry_of cs))
      → in_turn cs (map_with_change c m) ≡ map_with_change c (in_turn cs m)
  later c [] m below = refl
  later c (d ∷ ds) m below =
      ap (in_turn ds) (sym (two_changes c d m (ap is_eq (less_from_is_lt _ (first_holds _ _ below)))))
      ∙ later c ds (map_with_change d m) (second_holds _ _ below)

  in_any_order : (cs : List (Edit (Text × X))) (m : TextMap X) → T (is_sorted text_cmp (map entry_of cs)) → in_turn cs m ≡ map_with_changes cs m
  in_any_order [] m rise = refl
  in_any_order (c ∷ cs) m rise =
      later c cs m (first_holds _ _ rise) ∙ ap (map_with_change c) (in_any_order cs m (second_holds _ _ rise))

  -- ---- the list and the map

  change_of_list : (c : Edit (Text × X)) (m : TextMap X) → with_change name_cmp c m.entries ≡ (map_with_change c m).entries
  change_of_list (Put e) m = put-keyed e m.entries
  change_of_list (Remove e) m = where_key-keyed e m.entries

  changes_of_list : (cs : List (Edit (Text × X))) (m : TextMap X) → with_changes name_cmp cs m.entries ≡ (in_turn cs m).entries
  changes_of_list [] m = refl
  changes_of_list (c ∷ cs) m = ap (with_changes name_cmp cs) (change_of_list c m) ∙ changes_of_list cs (map_with_change c m)

  -- the changed list is that of the changed map
  pub entries_with_changes : (cs : List (Edit (Text × X))) (es : List (Text × X)) → T (is_sorted text_cmp es) → T (is_sorted text_cmp (map entry_of cs))
      → with_changes name_cmp cs es ≡ (map_with_changes cs (from_entries es)).entries
  entries_with_changes cs es sorted rise =
      ap (with_changes name_cmp cs) (sym (from_entries-sorted es sorted)) ∙ changes_of_list cs (from_entries es)
      ∙ ap (λ m. m.entries) (in_any_order cs (from_entries es) rise)

  pub sorted_with_changes : (cs : List (Edit (Text × X))) (es : List (Text × X)) → T (is_sorted text_cmp es) → T (is_sorted text_cmp (map entry_of cs))
      → T (is_sorted text_cmp (with_changes name_cmp cs es))
  sorted_with_changes cs es sorted rise =
      subst (λ xs. T (is_sorted text_cmp xs)) (sym (entries_with_changes cs es sorted rise)) (map_with_changes cs (from_entries es)).sorted

  pub map_of_changed_list : (cs : List (Edit (Text × X))) (es : List (Text × X)) → T (is_sorted text_cmp es) → T (is_sorted text_cmp (map entry_of cs))
      → from_entries (with_changes name_cmp cs es) ≡ map_with_changes cs (from_entries es)
  map_of_changed_list cs es sorted rise = same_list _ _
      (from_entries-sorted _ (sorted_with_changes cs es sorted rise) ∙ entries_with_changes cs es sorted rise)
