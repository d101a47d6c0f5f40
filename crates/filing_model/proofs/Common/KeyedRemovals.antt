-- A name that is taken out of a tree is taken out of the map that the tree is.
use Rattle.std.proofs.Common.{◌≡◌, ◌∙◌, ap, sym, refl, subst, T, List, [], ◌∷◌, Option, Some, None, cond, true, false, not}
use Rattle.std.specs.Prelude.{String, string_bytes}
use Rattle.std.specs.declared.alloc.Global.{Global}
use Rattle.std.specs.String.{string_cmp}
use Rattle.std.specs.Map.{keys_of, remove_entry}
use Rattle.std.specs.List.Sorted.{IsStrictlySortedBy}
use Rattle.std.specs.FinMap.{slice_cmp-IsAntisymmetric, nat_cmp-IsAntisymmetric}
use Rattle.std.specs.FinMap.Entries.{find, is_sorted, find-where_key}
use Rattle.std.specs.BTreeMap.{is_at}
use mathlib.Core.Bool.{true≢false}
use Rattle.filing_model.specs.Common.Text.{Text, text_cmp, text_eq}
use Rattle.filing_model.specs.Common.TextMap.{TextMap, get, remove, from_entries}
use Rattle.filing_model.proofs.Common.TextMaps.{get-from_entries, same_map}
use Rattle.filing_model.proofs.Common.Texts.{text_same}
use Rattle.filing_model.proofs.Common.Tests.{first_holds, second_holds}
use Rattle.filing_model.proofs.Common.MapsOfLists.{below_is_not_found}
use Rattle.filing_model.specs.Common.Keyed.{keyed, keyed_map}
use Rattle.filing_model.proofs.Common.KeyedMaps.{sorted_keyed}

find-remove_entry : {V X : Type 0} (f : V → X) (q r : Text) (es : List (String Global × V)) → T (is_sorted text_cmp (keyed f es))
    → find text_cmp r (keyed f (remove_entry (is_at (λ k. text_cmp q (string_bytes k))) es)) ≡ cond (not (text_eq q r)) (find text_cmp r (keyed f es)) None
find-remove_entry {V} {X} f q r [] h = elim (text_eq q r) as (λ b. ◌≡◌ {A = Option X} None (cond (not b) None None)) [ true ↦ refl | false ↦ refl ]
find-remove_entry {V} {X} f q r (e ∷ es) h =
    let left = remove_entry (is_at (λ k. text_cmp q (string_bytes k))) es in
    elim (text_eq q (string_bytes e.0)) as (λ b. text_eq q (string_bytes e.0) ≡ b
    → find text_cmp r (keyed f (cond b es (e ∷ left))) ≡ cond (not (text_eq q r)) (find text_cmp r (keyed f (e ∷ es))) None) [
      | true ↦ λ same. elim (text_eq q r) as (λ b. text_eq q r ≡ b → find text_cmp r (keyed f es) ≡ cond (not b) (find text_cmp r (keyed f (e ∷ es))) None) [
        | true ↦ λ here. subst (λ x. find text_cmp x (keyed f es) ≡ None) (sym (text_same q (string_bytes e.0) same) ∙ text_same q r here)
            (below_is_not_found (string_bytes e.0) (keyed f es) (first_holds _ _ h))
        | false ↦ λ apart. elim (text_eq r (string_bytes e.0)) as (λ b. text_eq r (string_bytes e.0) ≡ b
            → find text_cmp r (keyed f es) ≡ cond b (Some (f e.1)) (find text_cmp r (keyed f es))) [
              | true ↦ λ there. absurd (true≢false (sym (ap (λ x. text_eq q x) (text_same r (string_bytes e.0) there) ∙ same) ∙ apart))
              | false ↦ λ _. refl
            ] refl
      ] refl
      | false ↦ λ other. elim (text_eq r (string_bytes e.0)) as (λ b. text_eq r (string_bytes e.0) ≡ b
          → cond b (Some (f e.1)) (find text_cmp r (keyed f left)) ≡ cond (not (text_eq q r)) (cond b (Some (f e.1)) (find text_cmp r (keyed f es))) None) [
            | true ↦ λ here. sym (ap (λ b. cond (not b) (Some (f e.1)) None) (ap (λ x. text_eq q x) (text_same r (string_bytes e.0) here) ∙ other))
            | false ↦ λ _. find-remove_entry f q r es (second_holds _ _ h)
          ] refl
    ] refl

get-remove : {X : Type 0} (m : TextMap X) (q r : Text) → get (remove m q) r ≡ cond (not (text_eq q r)) (get m r) None
get-remove m q r = find-where_key text_cmp (λ k. not (text_eq q k)) r
    (λ x tied. ap (λ y. not (text_eq q y)) (sym (slice_cmp-IsAntisymmetric nat_cmp-IsAntisymmetric r x tied))) m.entries

-- the keys of the tree rise
pub keyed_map_remove_entry : {V X : Type 0} (f : V → X) (es : List (String Global × V)) (q : Text) → IsStrictlySortedBy string_cmp (keys_of es)
    → keyed_map f (remove_entry (is_at (λ k. text_cmp q (string_bytes k))) es) ≡ remove (keyed_map f es) q
keyed_map_remove_entry f es q h = same_map _ _ (λ r.
    get-from_entries (keyed f (remove_entry (is_at (λ k. text_cmp q (string_bytes k))) es)) r
    ∙ find-remove_entry f q r es (sorted_keyed f es h)
    ∙ ap (λ o. cond (not (text_eq q r)) o None) (sym (get-from_entries (keyed f es) r))
    ∙ sym (get-remove (from_entries (keyed f es)) q r))
