-- What the fact changes of a change make of the indexes of facts: those of the facts after the change.
use Rattle.std.proofs.Common.{◌≡◌, ◌∙◌, ap, sym, subst, refl, ℕ, Bool, true, false, cond, ◌&&◌, T, List, [], ◌∷◌, ◌++◌, map, Option, None}
use Rattle.std.proofs.Common.{Some, is_eq, is_lt, true≢false, IsPermutation}
use Rattle.std.specs.Prelude.{◌==◌, unwrap_or, option_and_then}
use Rattle.std.specs.Ordering.{eq_by_cmp}
use Rattle.std.specs.Cmp.{IsStrictWeakOrder, nat_eq_equiv, unsigned_Decides, eq_by_cmp_equiv}
use Rattle.std.specs.List.{flat_map, AllByRecursion, IsDistinct}
use Rattle.std.specs.FinMap.Entries.{find, below_all, is_sorted}
use Rattle.std.specs.List.Sorted.{IsSortedBy}
use Rattle.std.proofs.lemmas.Simd.{map-map}
use Rattle.std.proofs.lemmas.List.Sorted.{ranks_by}
use Rattle.sorted_pages.specs.Sorted.{IsRising}
use Rattle.std.proofs.lemmas.Map.Keys.{IsDistinct-IsPermutation}
use Rattle.sorted_pages.specs.declared.apply.Edit.{Edit}
use Rattle.sorted_pages.specs.declared.apply.Edit.TheVariants.{Remove}
use Rattle.sorted_pages.specs.Changes.{entry_of}
use Rattle.sorted_pages.specs.Changes as pages
use Rattle.text_map.specs.MapChanges.{map_with_changes}
use Rattle.filing_model.specs.Common.Text.{Text, text_cmp, text_eq}
use Rattle.filing_model.specs.Common.TextMap.{TextMap, get, insert, remove}
use Rattle.filing_model.specs.Oim.Facts.{Fact}
use Rattle.filing_model.proofs.Common.Texts.{text_same, text_eq-refl}
use Rattle.filing_model.proofs.Common.TextMaps.{get-insert, get-remove, same_map}
use Rattle.filing_model.proofs.Common.MapsOfLists.{below_is_not_found}
use Rattle.filing_model.proofs.Common.Tests.{both_hold, first_holds, second_holds, less_from_is_lt}
use Rattle.filing_index.specs.Index.{IndexEntry, key_cmp, hashed_cmp, if_hashed, IsIndex}
use Rattle.filing_facts.specs.FactChanges.{FactChange, fact_changes_of, passes, with_changes}
use Rattle.filing_index.specs.ChangedIndexes.{fact_changes_in, id_change, id_changes, hashed, removed, added, hashed_changes}
use Rattle.filing_index.specs.KeyOrder.{key_cmp_total, hashed_cmp_total}
use Rattle.filing_index.proofs.Keys.{tied_keys}
use Rattle.filing_index.proofs.DistinctKeys.{ties, found-IsPermutation, found_nowhere, sorted_rise}
use Rattle.filing_index.proofs.FoundAfter.{change_entry, found-with_changes}

-- ---- the facts after a change

abbrev Changes : Type 0
Changes = List (Text × Option Fact)

pub get-with_changes : (es : Changes) (facts : TextMap Fact) (id : Text) → get (with_changes es facts) id ≡ unwrap_or (find text_cmp id es) (get facts id)
get-with_changes [] facts id = refl
get-with_changes ((key, Some fact) ∷ es) facts id =
    get-insert (with_changes es facts) key fact id
    ∙ ap (λ o. cond (text_eq id key) (Some fact) o) (get-with_changes es facts id)
    ∙ elim (text_eq id key) as (λ b. cond b (Some fact) (unwrap_or (find text_cmp id es) (get facts id))
    ≡ unwrap_or (cond b (Some (Some fact)) (find text_cmp id es)) (get facts id)) [ true ↦ refl | false ↦ refl ]
get-with_changes ((key, None) ∷ es) facts id =
    get-remove (with_changes es facts) key id
    ∙ ap (λ o. cond (text_eq id key) None o) (get-with_changes es facts id)
    ∙ elim (text_eq id key) as (λ b. cond b None (unwrap_or (find text_cmp id es) (get facts id))
    ≡ unwrap_or (cond b (Some None) (find text_cmp id es)) (get facts id)) [ true ↦ refl | false ↦ refl ]

-- the fact changes that are left out change nothing
module _ {C : Type 0} (change : Text → Option Fact → Option Fact → List C) (unmoved : (id : Text) → change id None None ≡ []) where
  abbrev all : List FactChange → List C
  all fact_changes = flat_map (λ m. change m.id m.old m.new) fact_changes

  left_out : (id : Text) (old new : Option Fact) (ms ns : List FactChange) → all ms ≡ all ns
      → all (cond (passes (λ fact. true) (record { id = id; old = old; new = new })) (record { id = id; old = old; new = new } ∷ ms) ms)
      ≡ change id old new ++ all ns
  left_out id None None ms ns same = same ∙ ap (λ cs. cs ++ all ns) (sym (unmoved id))
  left_out id None (Some new) ms ns same = ap (λ cs. change id None (Some new) ++ cs) same
  left_out id (Some old) new ms ns same = ap (λ cs. change id (Some old) new ++ cs) same

  pub changes_of_all : (es : Changes) (facts : TextMap Fact) → all (fact_changes_in es facts) ≡ all (fact_changes_of es facts)
  changes_of_all [] facts = refl
  changes_of_all (e ∷ es) facts = left_out e.0 (get facts e.0) e.1 (fact_changes_in es facts) (fact_changes_of es facts) (changes_of_all es facts)

apart_from_below : (id key : Text) → T (is_lt (text_cmp id key)) → text_eq id key ≡ false
apart_from_below id key h = ap is_eq (less_from_is_lt _ h)

-- ---- in an index by hashes

abbrev pub is_change_before : Edit IndexEntry → Edit IndexEntry → Bool
is_change_before c d = is_lt (hashed_cmp (entry_of c) (entry_of d))

pub is_change_before-ranks : IsStrictWeakOrder is_change_before
is_change_before-ranks = ranks_by hashed_cmp_total entry_of

module _ (hash_of : Fact → ℕ) where
  abbrev entry : Edit IndexEntry → (ℕ × Text) × Option Fact
  entry = change_entry

  abbrev found : ℕ × Text → List (Edit IndexEntry) → Option (Option Fact)
  found q cs = find key_cmp q (map entry cs)

  abbrev block : Text → Option Fact → Option Fact → List (Edit IndexEntry) → List (Edit IndexEntry)
  block id old new cs = (removed hash_of id old new ++ added hash_of id new) ++ cs

  abbrev IsApart : ℕ × Text → Edit IndexEntry → Type 0
  IsApart k c = eq_by_cmp key_cmp k (entry_of c).0 ≡ false

  other_id : (k : ℕ × Text) (hash : ℕ) (id : Text) → text_eq k.1 id ≡ false → eq_by_cmp key_cmp k (hash, id) ≡ false
  other_id k hash id h = tied_keys k (hash, id) ∙ ap (λ b. b && (hash == k.0)) h

  other_hash : (hash other : ℕ) (id : Text) → (hash == other) ≡ false → eq_by_cmp key_cmp (hash, id) (other, id) ≡ false
  other_hash hash other id h =
      tied_keys (hash, id) (other, id) ∙ ap (λ b. b && (other == hash)) (text_eq-refl id) ∙ nat_eq_equiv.symm other hash ∙ h

  -- a key of another identifier is apart from the changes of this one
  block_apart : (k : ℕ × Text) (id : Text) (old new : Option Fact) (cs : List (Edit IndexEntry)) → text_eq k.1 id ≡ false
      → AllByRecursion (IsApart k) cs → AllByRecursion (IsApart k) (block id old new cs)
  block_apart k id None None cs h rest = rest
  block_apart k id None (Some new) cs h rest = (other_id k (hash_of new) id h, rest)
  block_apart k id (Some old) None cs h rest = (other_id k (hash_of old) id h, rest)
  block_apart k id (Some old) (Some new) cs h rest =
      elim (hash_of old == hash_of new)
      as (λ b. AllByRecursion (IsApart k) ((cond b [] (Remove (hashed hash_of (id, old)) ∷ []) ++ added hash_of id (Some new)) ++ cs)) [
        | true ↦ (other_id k (hash_of new) id h, rest)
        | false ↦ (other_id k (hash_of old) id h, (other_id k (hash_of new) id h, rest))
      ]

  all_apart : (k : ℕ × Text) (es : Changes) (facts : TextMap Fact) → T (below_all text_cmp k.1 es)
      → AllByRecursion (IsApart k) (hashed_changes hash_of (fact_changes_of es facts))
  all_apart k [] facts h = tt
  all_apart k (e ∷ es) facts h =
      block_apart k e.0 (get facts e.0) e.1 (hashed_changes hash_of (fact_changes_of es facts)) (apart_from_below k.1 e.0 (first_holds _ _ h))
      (all_apart k es facts (second_holds _ _ h))

  block_distinct : (id : Text) (old new : Option Fact) (cs : List (Edit IndexEntry)) → ((hash : ℕ) → AllByRecursion (IsApart (hash, id)) cs)
      → IsDistinct (ties key_cmp entry) cs → IsDistinct (ties key_cmp entry) (block id old new cs)
  unfolding IsDistinct
  block_distinct id None None cs h rest = rest
  block_distinct id None (Some new) cs h rest = (h (hash_of new), rest)
  block_distinct id (Some old) None cs h rest = (h (hash_of old), rest)
  block_distinct id (Some old) (Some new) cs h rest =
      elim (hash_of old == hash_of new) as (λ b. (hash_of old == hash_of new) ≡ b
      → IsDistinct (ties key_cmp entry) ((cond b [] (Remove (hashed hash_of (id, old)) ∷ []) ++ added hash_of id (Some new)) ++ cs)) [
        | true ↦ λ _. (h (hash_of new), rest)
        | false ↦ λ differ. ((other_hash (hash_of old) (hash_of new) id differ, h (hash_of old)), (h (hash_of new), rest))
      ] refl

  all_distinct : (es : Changes) (facts : TextMap Fact) → T (is_sorted text_cmp es)
      → IsDistinct (ties key_cmp entry) (hashed_changes hash_of (fact_changes_of es facts))
  unfolding IsDistinct
  all_distinct [] facts h = tt
  all_distinct (e ∷ es) facts h =
      block_distinct e.0 (get facts e.0) e.1 (hashed_changes hash_of (fact_changes_of es facts)) (λ hash. all_apart (hash, e.0) es facts (first_holds _ _ h))
      (all_distinct es facts (second_holds _ _ h))

  same_changes : (es : Changes) (facts : TextMap Fact) → hashed_changes hash_of (fact_changes_in es facts) ≡ hashed_changes hash_of (fact_changes_of es facts)
  same_changes = changes_of_all (λ id old new. removed hash_of id old new ++ added hash_of id new) (λ id. refl)

  pub distinct_changes : (changes : TextMap (Option Fact)) (facts : TextMap Fact)
      → IsDistinct (ties key_cmp entry) (hashed_changes hash_of (fact_changes_in changes.entries facts))
  distinct_changes changes facts =
      subst (IsDistinct (ties key_cmp entry)) (sym (same_changes changes.entries facts)) (all_distinct changes.entries facts changes.sorted)

  -- ---- what is found

  abbrev at : ℕ → Option Fact → Option Fact
  at hash fact = option_and_then (if_hashed hash_of hash) fact

  -- whether a key ties with that of a fact of its identifier
  tied_hash : (hash : ℕ) (id key : Text) (fact : Fact) → text_eq id key ≡ true
      → eq_by_cmp key_cmp (hash, id) (hash_of fact, key) ≡ (hash_of fact == hash)
  tied_hash hash id key fact h = tied_keys (hash, id) (hash_of fact, key) ∙ ap (λ b. b && (hash_of fact == hash)) h

  put_alone : (b : Bool) (new : Fact) → unwrap_or (cond b (Some (Some new)) None) None ≡ cond b (Some new) None
  put_alone true new = refl
  put_alone false new = refl

  removed_alone : (b : Bool) (old : Fact) → unwrap_or (cond b (Some None) None) (cond b (Some old) None) ≡ None
  removed_alone true old = refl
  removed_alone false old = refl

  replaced : (b c : Bool) (old new : Fact) → b ≡ c → unwrap_or (cond c (Some (Some new)) None) (cond b (Some old) None) ≡ cond c (Some new) None
  replaced true true old new same = refl
  replaced true false old new same = absurd (true≢false same)
  replaced false true old new same = refl
  replaced false false old new same = refl

  moved : (b c : Bool) (old new : Fact) → (b ≡ true → c ≡ true → ⊥)
      → unwrap_or (cond b (Some None) (cond c (Some (Some new)) None)) (cond b (Some old) None) ≡ cond c (Some new) None
  moved true true old new apart = absurd (apart refl refl)
  moved true false old new apart = refl
  moved false true old new apart = refl
  moved false false old new apart = refl

  one_hash : (old new hash : ℕ) → (old == new) ≡ false → (old == hash) ≡ true → (new == hash) ≡ true → ⊥
  one_hash old new hash differ b c =
      let same : old ≡ new = (unsigned_Decides old hash).0 b ∙ sym ((unsigned_Decides new hash).0 c) in
      true≢false (sym ((unsigned_Decides old new).1 same) ∙ differ)

  -- at the identifier of a fact change
  found_here : (hash : ℕ) (id key : Text) (old new : Option Fact) (cs : List (Edit IndexEntry)) → text_eq id key ≡ true → found (hash, id) cs ≡ None
      → unwrap_or (found (hash, id) (block key old new cs)) (at hash old) ≡ at hash new
  found_here hash id key None None cs same none = ap (λ o. unwrap_or o None) none
  found_here hash id key None (Some new) cs same none =
      (λ i. unwrap_or (cond (tied_hash hash id key new same i) (Some (Some new)) (none i)) None) ∙ put_alone (hash_of new == hash) new
  found_here hash id key (Some old) None cs same none =
      (λ i. unwrap_or (cond (tied_hash hash id key old same i) (Some None) (none i)) (at hash (Some old))) ∙ removed_alone (hash_of old == hash) old
  found_here hash id key (Some old) (Some new) cs same none =
      elim (hash_of old == hash_of new) as (λ b. (hash_of old == hash_of new) ≡ b
      → unwrap_or (found (hash, id) ((cond b [] (Remove (hashed hash_of (key, old)) ∷ []) ++ added hash_of key (Some new)) ++ cs)) (at hash (Some old))
      ≡ at hash (Some new)) [
        | true ↦ λ one.
            (λ i. unwrap_or (cond (tied_hash hash id key new same i) (Some (Some new)) (none i)) (at hash (Some old)))
            ∙ replaced (hash_of old == hash) (hash_of new == hash) old new (ap (λ n. n == hash) ((unsigned_Decides (hash_of old) (hash_of new)).0 one))
        | false ↦ λ differ.
            (λ i. unwrap_or (cond (tied_hash hash id key old same i) (Some None) (cond (tied_hash hash id key new same i) (Some (Some new)) (none i)))
            (at hash (Some old)))
            ∙ moved (hash_of old == hash) (hash_of new == hash) old new (one_hash (hash_of old) (hash_of new) hash differ)
      ] refl

  -- at another identifier
  found_elsewhere : (hash : ℕ) (id key : Text) (old new : Option Fact) (cs : List (Edit IndexEntry)) → text_eq id key ≡ false
      → found (hash, id) (block key old new cs) ≡ found (hash, id) cs
  found_elsewhere hash id key None None cs h = refl
  found_elsewhere hash id key None (Some new) cs h = ap (λ b. cond b (Some (Some new)) (found (hash, id) cs)) (other_id (hash, id) (hash_of new) key h)
  found_elsewhere hash id key (Some old) None cs h = ap (λ b. cond b (Some None) (found (hash, id) cs)) (other_id (hash, id) (hash_of old) key h)
  found_elsewhere hash id key (Some old) (Some new) cs h =
      elim (hash_of old == hash_of new) as (λ b.
      found (hash, id) ((cond b [] (Remove (hashed hash_of (key, old)) ∷ []) ++ added hash_of key (Some new)) ++ cs) ≡ found (hash, id) cs) [
        | true ↦ ap (λ b. cond b (Some (Some new)) (found (hash, id) cs)) (other_id (hash, id) (hash_of new) key h)
        | false ↦
            (λ i. cond (other_id (hash, id) (hash_of old) key h i) (Some None)
            (cond (other_id (hash, id) (hash_of new) key h i) (Some (Some new)) (found (hash, id) cs)))
      ]

  found_after : (hash : ℕ) (id : Text) (es : Changes) (facts : TextMap Fact) → T (is_sorted text_cmp es)
      → unwrap_or (found (hash, id) (hashed_changes hash_of (fact_changes_of es facts))) (at hash (get facts id))
      ≡ at hash (unwrap_or (find text_cmp id es) (get facts id))
  found_after hash id [] facts h = refl
  found_after hash id (e ∷ es) facts h =
      let rest = hashed_changes hash_of (fact_changes_of es facts) in
      elim (text_eq id e.0) as (λ b. text_eq id e.0 ≡ b
      → unwrap_or (found (hash, id) (block e.0 (get facts e.0) e.1 rest)) (at hash (get facts id))
      ≡ at hash (unwrap_or (cond b (Some e.1) (find text_cmp id es)) (get facts id))) [
        | true ↦ λ same.
            let none : found (hash, id) rest ≡ None =
            found_nowhere key_cmp entry (hash, id) rest
            (all_apart (hash, id) es facts (subst (λ t. T (below_all text_cmp t es)) (sym (text_same id e.0 same)) (first_holds _ _ h))) in
            ap (λ t. unwrap_or (found (hash, id) (block e.0 (get facts e.0) e.1 rest)) (at hash (get facts t))) (text_same id e.0 same)
            ∙ found_here hash id e.0 (get facts e.0) e.1 rest same none
        | false ↦ λ other.
            ap (λ o. unwrap_or o (at hash (get facts id))) (found_elsewhere hash id e.0 (get facts e.0) e.1 rest other)
            ∙ found_after hash id es facts (second_holds _ _ h)
      ] refl

  still_distinct : (changes : TextMap (Option Fact)) (facts : TextMap Fact) (cs : List (Edit IndexEntry))
      → IsPermutation (hashed_changes hash_of (fact_changes_in changes.entries facts)) cs → IsDistinct (ties key_cmp entry) cs
  still_distinct changes facts cs p =
      IsDistinct-IsPermutation (ties key_cmp entry) (λ x y. (eq_by_cmp_equiv key_cmp_total).symm (entry_of x).0 (entry_of y).0)
      (hashed_changes hash_of (fact_changes_in changes.entries facts)) cs p (distinct_changes changes facts)

  -- the changes may be sorted first
  pub index_after : (changes : TextMap (Option Fact)) (facts : TextMap Fact) (entries : List IndexEntry) (cs : List (Edit IndexEntry))
      → IsPermutation (hashed_changes hash_of (fact_changes_in changes.entries facts)) cs → IsIndex hash_of facts entries
      → IsIndex hash_of (with_changes changes.entries facts) (pages.with_changes hashed_cmp cs entries)
  index_after changes facts entries cs p is = λ hash id.
      let same = found-IsPermutation key_cmp entry key_cmp_total (hashed_changes hash_of (fact_changes_in changes.entries facts)) cs p
      (distinct_changes changes facts) (hash, id) in
      found-with_changes key_cmp key_cmp_total cs entries (hash, id) (still_distinct changes facts cs p)
      ∙ (λ i. unwrap_or (sym same i) (is hash id i))
      ∙ ap (λ ms. unwrap_or (found (hash, id) ms) (at hash (get facts id))) (same_changes changes.entries facts)
      ∙ found_after hash id changes.entries facts changes.sorted
      ∙ ap (at hash) (sym (get-with_changes changes.entries facts id))

  -- sorted, they rise
  pub sorted_changes_rise : (changes : TextMap (Option Fact)) (facts : TextMap Fact) (cs : List (Edit IndexEntry))
      → IsPermutation (hashed_changes hash_of (fact_changes_in changes.entries facts)) cs → IsSortedBy is_change_before cs
      → IsRising hashed_cmp (map entry_of cs)
  sorted_changes_rise changes facts cs p sorted =
      subst (λ es. T (is_sorted hashed_cmp es)) (sym (map-map (λ e. (e, e)) entry_of cs))
      (sorted_rise hashed_cmp (λ c. (entry_of c, entry_of c)) hashed_cmp_total cs sorted (still_distinct changes facts cs p))

-- ---- in the order of identifiers

ids_below : (key id : Text) (old new : Option Fact) (cs : List (Edit (Text × Fact))) → T (is_lt (text_cmp key id))
    → T (below_all text_cmp key (map entry_of cs)) → T (below_all text_cmp key (map entry_of (id_change id old new ++ cs)))
ids_below key id None None cs l h = h
ids_below key id (Some old) None cs l h = both_hold _ _ l h
ids_below key id None (Some new) cs l h = both_hold _ _ l h
ids_below key id (Some old) (Some new) cs l h = both_hold _ _ l h

all_below : (key : Text) (es : Changes) (facts : TextMap Fact) → T (below_all text_cmp key es)
    → T (below_all text_cmp key (map entry_of (id_changes (fact_changes_of es facts))))
all_below key [] facts h = tt
all_below key (e ∷ es) facts h =
    ids_below key e.0 (get facts e.0) e.1 (id_changes (fact_changes_of es facts)) (first_holds _ _ h) (all_below key es facts (second_holds _ _ h))

ids_rise : (id : Text) (old new : Option Fact) (cs : List (Edit (Text × Fact))) → T (below_all text_cmp id (map entry_of cs))
    → T (is_sorted text_cmp (map entry_of cs)) → T (is_sorted text_cmp (map entry_of (id_change id old new ++ cs)))
ids_rise id None None cs b h = h
ids_rise id (Some old) None cs b h = both_hold _ _ b h
ids_rise id None (Some new) cs b h = both_hold _ _ b h
ids_rise id (Some old) (Some new) cs b h = both_hold _ _ b h

all_rise : (es : Changes) (facts : TextMap Fact) → T (is_sorted text_cmp es) → T (is_sorted text_cmp (map entry_of (id_changes (fact_changes_of es facts))))
all_rise [] facts h = tt
all_rise (e ∷ es) facts h =
    ids_rise e.0 (get facts e.0) e.1 (id_changes (fact_changes_of es facts)) (all_below e.0 es facts (first_holds _ _ h))
    (all_rise es facts (second_holds _ _ h))

same_ids : (es : Changes) (facts : TextMap Fact) → id_changes (fact_changes_in es facts) ≡ id_changes (fact_changes_of es facts)
same_ids = changes_of_all id_change (λ id. refl)

pub ids_of_moves_rise : (changes : TextMap (Option Fact)) (facts : TextMap Fact)
    → T (is_sorted text_cmp (map entry_of (id_changes (fact_changes_in changes.entries facts))))
ids_of_moves_rise changes facts =
    subst (λ cs. T (is_sorted text_cmp (map entry_of cs))) (sym (same_ids changes.entries facts)) (all_rise changes.entries facts changes.sorted)

-- what does not stand there need not go
nothing_to_remove : {X : Type 0} (m : TextMap X) (id : Text) → get m id ≡ None → remove m id ≡ m
nothing_to_remove m id none = same_map _ _ (λ q.
    get-remove m id q
    ∙ elim (text_eq q id) as (λ b. text_eq q id ≡ b → cond b None (get m q) ≡ get m q) [
      | true ↦ λ same. sym (ap (get m) (text_same q id same) ∙ none)
      | false ↦ λ _. refl
    ] refl)

-- the facts with one change
abbrev with_one : Text → Option Fact → TextMap Fact → TextMap Fact
with_one id None m = remove m id
with_one id (Some fact) m = insert m id fact

one_change : (id : Text) (new : Option Fact) (es : Changes) (facts : TextMap Fact)
    → with_one id new (with_changes es facts) ≡ with_changes ((id, new) ∷ es) facts
one_change id None es facts = refl
one_change id (Some fact) es facts = refl

id_after : (id : Text) (old new : Option Fact) (cs : List (Edit (Text × Fact))) (facts after : TextMap Fact) → map_with_changes cs facts ≡ after
    → get after id ≡ old → map_with_changes (id_change id old new ++ cs) facts ≡ with_one id new after
id_after id None None cs facts after rest there = rest ∙ sym (nothing_to_remove after id there)
id_after id (Some old) None cs facts after rest there = ap (λ m. remove m id) rest
id_after id None (Some new) cs facts after rest there = ap (λ m. insert m id new) rest
id_after id (Some old) (Some new) cs facts after rest there = ap (λ m. insert m id new) rest

ids_after : (es : Changes) (facts : TextMap Fact) → T (is_sorted text_cmp es)
    → map_with_changes (id_changes (fact_changes_of es facts)) facts ≡ with_changes es facts
ids_after [] facts h = refl
ids_after ((id, new) ∷ es) facts h =
    id_after id (get facts id) new (id_changes (fact_changes_of es facts)) facts (with_changes es facts) (ids_after es facts (second_holds _ _ h))
    (get-with_changes es facts id ∙ ap (λ o. unwrap_or o (get facts id)) (below_is_not_found id es (first_holds _ _ h)))
    ∙ one_change id new es facts

pub map_after : (changes : TextMap (Option Fact)) (facts : TextMap Fact)
    → map_with_changes (id_changes (fact_changes_in changes.entries facts)) facts ≡ with_changes changes.entries facts
map_after changes facts = ap (λ cs. map_with_changes cs facts) (same_ids changes.entries facts) ∙ ids_after changes.entries facts changes.sorted
