-- What is left of a map out of which an entry is taken, and the map with another one in its place.
use Rattle.std.proofs.Common.{◌≡◌, ◌∙◌, ap, sym, refl, subst, Bool, true, false, cond, T, List, [], ◌∷◌, Option, Some, None, is_some}
use Rattle.std.specs.Prelude.{option_map}
use Rattle.std.specs.FinMap.Entries.{is_sorted}
use Rattle.sorted_pages.specs.declared.apply.Edit.TheVariants.{Remove}
use Rattle.sorted_pages.specs.Changes.{with_change}
use Rattle.filing_model.specs.Common.Text.{Text, text_cmp, text_eq}
use Rattle.filing_model.specs.Common.TextMap.{TextMap, get, insert, remove, from_entries}
use Rattle.filing_model.proofs.Common.Texts.{text_same}
use Rattle.filing_model.proofs.Common.TextMaps.{same_map, get-insert, get-remove}
use Rattle.text_map.proofs.NamedLists.{name_cmp}
use Rattle.text_map.proofs.MapsOfChanges.{map_of_changed_list}

module _ {X : Type 0} where
  same_some : (x y : X) → Some x ≡ Some y → x ≡ y
  same_some x y e = cc

  pub named_so : (name : Text) (n : Text × X) (o : Option X) → Some n ≡ option_map (λ v. (name, v)) o → (n.0 ≡ name) × (Some n.1 ≡ o)
  named_so name n None e = absurd (subst T (ap is_some e) tt)
  named_so name n (Some v) e =
      let same : n ≡ (name, v) = pairs n (name, v) e in
      (ap (λ p. p.0) same, ap (λ p. Some p.1) same)
    where
      pairs : (p q : Text × X) → Some p ≡ Some q → p ≡ q
      pairs p q e = cc

  pub left_map : (name : Text) (n : Text × X) (es left : List (Text × X)) → T (is_sorted text_cmp es) → left ≡ with_change name_cmp (Remove n) es
      → n.0 ≡ name → from_entries left ≡ remove (from_entries es) name
  left_map name n es left sorted e en =
      ap from_entries e ∙ map_of_changed_list (Remove n ∷ []) es sorted tt ∙ ap (remove (from_entries es)) en

  put_in_place : (b : Bool) (x y : Option X) → cond b x (cond b None y) ≡ cond b x y
  put_in_place true x y = refl
  put_in_place false x y = refl

  -- another value in the place of one that was taken
  pub insert-remove : (m : TextMap X) (name : Text) (x : X) → insert (remove m name) name x ≡ insert m name x
  insert-remove m name x = same_map _ _ (λ q.
      get-insert (remove m name) name x q ∙ ap (cond (text_eq q name) (Some x)) (get-remove m name q)
      ∙ put_in_place (text_eq q name) (Some x) (get m q) ∙ sym (get-insert m name x q))

  stands : (b : Bool) (q name : Text) (x : X) (m : TextMap X) → text_eq q name ≡ b → Some x ≡ get m name → cond b (Some x) (get m q) ≡ get m q
  stands true q name x m same there = there ∙ ap (get m) (sym (text_same q name same))
  stands false q name x m same there = refl

  -- the same value again
  pub insert_back : (m : TextMap X) (name : Text) (x : X) → Some x ≡ get m name → insert (remove m name) name x ≡ m
  insert_back m name x there = insert-remove m name x ∙ same_map _ _ (λ q.
      get-insert m name x q ∙ stands (text_eq q name) q name x m refl there)
