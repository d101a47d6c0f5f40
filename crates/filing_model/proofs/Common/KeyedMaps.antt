-- What the contracts of `BTreeMap` say of the finite map that it is.
use Rattle.std.proofs.Common.{◌≡◌, ◌∙◌, ap, sym, refl, subst, T, List, [], ◌∷◌, Some, cond, true, false}
use Rattle.std.specs.Prelude.{String, string_bytes, option_map}
use Rattle.std.specs.declared.alloc.Global.{Global}
use Rattle.std.specs.declared.cmp.Ordering.TheVariants.{Less, Equal, Greater}
use Rattle.std.specs.Ordering.{match_ordering, is_eq, is_lt}
use Rattle.std.specs.String.{string_cmp}
use Rattle.std.specs.Map.{lookup, keys_of}
use Rattle.std.specs.List.{AllByRecursion}
use Rattle.std.specs.List.Sorted.{IsStrictlySortedBy}
use Rattle.std.specs.BTreeMap.{insert_entry, is_at}
use Rattle.std.specs.FinMap.Entries.{find, put, by_order, below_all, is_sorted}
use Rattle.filing_model.specs.Common.Text.{Text, text_cmp}
use Rattle.filing_model.specs.Common.TextMap.{get, insert, from_entries}
use Rattle.filing_model.specs.Common.Keyed.{keyed, keyed_map}
use Rattle.filing_model.proofs.Common.TextMaps.{get-from_entries, from_entries-put}
use Rattle.filing_model.proofs.Common.Tests.{both_hold}

pub find-keyed : {V X : Type 0} (f : V → X) (q : Text) (es : List (String Global × V)) → find text_cmp q (keyed f es) ≡ option_map f (lookup (is_at (λ k. text_cmp q (string_bytes k))) es)
find-keyed f q [] = refl
find-keyed f q (e ∷ es) =
    elim (is_eq (text_cmp q (string_bytes e.0))) as (λ b. cond b (Some (f e.1)) (find text_cmp q (keyed f es))
    ≡ option_map f (cond b (Some e.1) (lookup (is_at (λ k. text_cmp q (string_bytes k))) es))) [
      | true ↦ refl
      | false ↦ find-keyed f q es
    ]

-- a look-up in the map is one in the tree
pub get_keyed_map : {V X : Type 0} (f : V → X) (es : List (String Global × V)) (q : Text) → get (keyed_map f es) q ≡ option_map f (lookup (is_at (λ k. text_cmp q (string_bytes k))) es)
get_keyed_map f es q = get-from_entries (keyed f es) q ∙ find-keyed f q es

pub keyed-insert_entry : {V X : Type 0} (f : V → X) (es : List (String Global × V)) (k : String Global) (v : V)
    → keyed f (insert_entry string_cmp es k v) ≡ put text_cmp (string_bytes k) (f v) (keyed f es)
keyed-insert_entry f [] k v = refl
keyed-insert_entry f (e ∷ es) k v =
    elim (text_cmp (string_bytes k) (string_bytes e.0)) as
    (λ o. keyed f (match_ordering o ((k, v) ∷ e ∷ es) ((e.0, v) ∷ es) (e ∷ insert_entry string_cmp es k v))
    ≡ by_order o ((string_bytes k, f v) ∷ keyed f (e ∷ es)) ((string_bytes e.0, f v)
    ∷ keyed f es) ((string_bytes e.0, f e.1) ∷ put text_cmp (string_bytes k) (f v) (keyed f es))) [
      | Less ↦ refl
      | Equal ↦ refl
      | Greater ↦ ap (λ rest. (string_bytes e.0, f e.1) ∷ rest) (keyed-insert_entry f es k v)
    ]

-- an insertion into the map is one into the tree
pub keyed_map_insert_entry : {V X : Type 0} (f : V → X) (es : List (String Global × V)) (k : String Global) (v : V)
    → keyed_map f (insert_entry string_cmp es k v) ≡ insert (keyed_map f es) (string_bytes k) (f v)
keyed_map_insert_entry f es k v = ap (λ x. from_entries x) (keyed-insert_entry f es k v) ∙ from_entries-put (string_bytes k) (f v) (keyed f es)

-- the keys of a tree rise, so its entries are those of the map
sorted_below : {V X : Type 0} (f : V → X) (k : String Global) (es : List (String Global × V))
    → AllByRecursion (λ y. string_cmp k y ≡ Less) (keys_of es) → T (below_all text_cmp (string_bytes k) (keyed f es))
sorted_below f k [] h = tt
sorted_below f k (e ∷ es) (less, rest) = both_hold _ _ (subst (λ o. T (is_lt o)) (sym less) tt) (sorted_below f k es rest)

pub sorted_keyed : {V X : Type 0} (f : V → X) (es : List (String Global × V)) → IsStrictlySortedBy string_cmp (keys_of es) → T (is_sorted text_cmp (keyed f es))
unfolding IsStrictlySortedBy
sorted_keyed f [] h = tt
sorted_keyed f (e ∷ es) (below, rest) = both_hold _ _ (sorted_below f e.0 es below) (sorted_keyed f es rest)

-- ---- a value that is written through `get_mut`
