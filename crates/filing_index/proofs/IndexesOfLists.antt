-- Facts under their hashes, sorted, are an index of them.
use Rattle.std.proofs.Common.{◌≡◌, ◌∙◌, ap, sym, subst, refl, ℕ, Bool, true, false, cond, ◌&&◌, T, List, [], ◌∷◌}
use Rattle.std.proofs.Common.{map, Option, None, Some, is_eq, is_lt, IsPermutation, Ordering, Less, Equal, Greater}
use Rattle.std.proofs.Common.{true≢false, not, get_or, ◌+◌}
use Rattle.std.specs.Prelude.{◌==◌, option_and_then}
use Rattle.std.specs.Ordering.{eq_by_cmp, nat_cmp, ordering_then, ordering_reverse}
use Rattle.std.specs.List.{AllByRecursion, IsDistinct}
use Rattle.std.specs.List.Sorted.{IsSortedBy, IsStableBy, ties as ties_by}
use Rattle.std.proofs.lemmas.Simd.{map-map}
use Rattle.std.specs.Cmp.Lexicographic.{nat_list_cmp_total}
use Rattle.oim_fact.proofs.SearchedEntries.{IsSortedBy-entries}
use Rattle.std.specs.Cmp.{IsStrictWeakOrder, eq_by_cmp_equiv, nat_cmp_total}
use Rattle.std.specs.FinMap.Entries.{find, below_all, is_sorted}
use Rattle.std.proofs.lemmas.List.{map-id}
use Rattle.std.proofs.lemmas.List.Sorted.{ranks_by, ties_stay_sorted}
use Rattle.std.proofs.lemmas.Map.Keys.{IsDistinct-IsPermutation}
use Rattle.sorted_pages.specs.Sorted.{IsRising}
use Rattle.filing_model.specs.Common.Text.{Text, text_cmp, text_eq}
use Rattle.filing_model.specs.Common.TextMap.{TextMap}
use Rattle.filing_model.specs.Oim.Facts.{Fact}
use Rattle.filing_model.proofs.Common.Texts.{text_same}
use Rattle.filing_model.proofs.Common.MapsOfLists.{below_is_not_found}
use Rattle.filing_model.proofs.Common.Tests.{first_holds, second_holds, less_from_is_lt}
use Rattle.filing_index.specs.Index.{IndexEntry, key_cmp, hashed_cmp, if_hashed, IsIndex}
use Rattle.filing_index.specs.ChangedIndexes.{hashed}
use Rattle.filing_index.specs.KeyOrder.{key_cmp_total, hashed_cmp_total}
use Rattle.filing_index.proofs.Keys.{tied_keys}
use Rattle.filing_index.proofs.DistinctKeys.{ties, found-IsPermutation, sorted_rise}

abbrev pub is_before : IndexEntry → IndexEntry → Bool
is_before x y = is_lt (hashed_cmp x y)

abbrev pub has_lesser_hash : IndexEntry → IndexEntry → Bool
has_lesser_hash x y = is_lt (nat_cmp x.0.0 y.0.0)

pub has_lesser_hash-ranks : IsStrictWeakOrder has_lesser_hash
has_lesser_hash-ranks = ranks_by nat_cmp_total (λ e. e.0.0)

abbrev has_lesser_id : IndexEntry → IndexEntry → Bool
has_lesser_id x y = is_lt (text_cmp x.0.1 y.0.1)

then_by_id : (s r : Ordering) → is_lt r ≡ false → (is_eq r ≡ true → is_lt s ≡ false) → is_lt (ordering_then r s) ≡ false
then_by_id s Less h k = h
then_by_id s Equal h k = k refl
then_by_id s Greater h k = refl

level : (r : Ordering) → is_eq r ≡ true → (not (is_lt (ordering_reverse r)) && not (is_lt r)) ≡ true
level Less e = absurd (true≢false (sym e))
level Equal e = refl
level Greater e = absurd (true≢false (sym e))

one_hash : (x y : IndexEntry) → is_eq (nat_cmp y.0.0 x.0.0) ≡ true → ties_by has_lesser_hash x y ≡ true
one_hash x y e =
    ap (λ r. not (is_lt r) && not (is_lt (nat_cmp y.0.0 x.0.0))) (nat_cmp_total.antisymm x.0.0 y.0.0) ∙ level (nat_cmp y.0.0 x.0.0) e

sorted_by_hash : (xs ys : List IndexEntry) → IsSortedBy has_lesser_id xs → IsSortedBy has_lesser_hash ys → IsStableBy has_lesser_hash xs ys
    → IsSortedBy is_before ys
sorted_by_hash xs ys ids hashes stable = λ k d low high.
    then_by_id (text_cmp (get_or ys (k + 1) d).0.1 (get_or ys k d).0.1) (nat_cmp (get_or ys (k + 1) d).0.0 (get_or ys k d).0.0) (hashes k d low high)
    (λ e. ties_stay_sorted has_lesser_id has_lesser_hash (ranks_by nat_list_cmp_total (λ e. e.0.1)) has_lesser_hash-ranks xs ys ids stable k d high
    (one_hash (get_or ys k d) (get_or ys (k + 1) d) e))

module _ (hash_of : Fact → ℕ) where
  abbrev all : List (Text × Fact) → List IndexEntry
  all es = map (hashed hash_of) es

  abbrev at : ℕ → Option Fact → Option Fact
  at hash fact = option_and_then (if_hashed hash_of hash) fact

  tied : (hash : ℕ) (id : Text) (e : Text × Fact) → eq_by_cmp key_cmp (hash, id) (hashed hash_of e).0 ≡ (text_eq id e.0 && (hash_of e.1 == hash))
  tied hash id e = tied_keys (hash, id) (hashed hash_of e).0

  here : (b : Bool) (fact : Fact) (rest : Option Fact) → rest ≡ None → cond b (Some fact) rest ≡ cond b (Some fact) None
  here b fact rest none = ap (λ o. cond b (Some fact) o) none

  found_all : (hash : ℕ) (id : Text) (es : List (Text × Fact)) → T (is_sorted text_cmp es) → find key_cmp (hash, id) (all es) ≡ at hash (find text_cmp id es)
  found_all hash id [] h = refl
  found_all hash id (e ∷ es) h =
      let rest = found_all hash id es (second_holds _ _ h) in
      ap (λ b. cond b (Some e.1) (find key_cmp (hash, id) (all es))) (tied hash id e)
      ∙ elim (text_eq id e.0) as (λ b. text_eq id e.0 ≡ b
      → cond (b && (hash_of e.1 == hash)) (Some e.1) (find key_cmp (hash, id) (all es)) ≡ at hash (cond b (Some e.1) (find text_cmp id es))) [
        | true ↦ λ same.
            here (hash_of e.1 == hash) e.1 (find key_cmp (hash, id) (all es))
            (rest ∙ ap (at hash) (below_is_not_found id es (subst (λ t. T (below_all text_cmp t es)) (sym (text_same id e.0 same)) (first_holds _ _ h))))
        | false ↦ λ _. rest
      ] refl

  abbrev itself : IndexEntry → (ℕ × Text) × Fact
  itself e = e

  all_apart : (k : ℕ × Text) (es : List (Text × Fact)) → T (below_all text_cmp k.1 es) → AllByRecursion (λ e. eq_by_cmp key_cmp k e.0 ≡ false) (all es)
  all_apart k [] h = tt
  all_apart k (e ∷ es) h = (
    tied k.0 k.1 e ∙ ap (λ b. b && (hash_of e.1 == k.0)) (ap is_eq (less_from_is_lt _ (first_holds _ _ h))),
    all_apart k es (second_holds _ _ h),
  )

  pub distinct_hashes : (es : List (Text × Fact)) → T (is_sorted text_cmp es) → IsDistinct (ties key_cmp itself) (all es)
  unfolding IsDistinct
  distinct_hashes [] h = tt
  distinct_hashes (e ∷ es) h = (all_apart (hashed hash_of e).0 es (first_holds _ _ h), distinct_hashes es (second_holds _ _ h))

  -- they may be sorted first
  pub index_of : (facts : TextMap Fact) (entries : List IndexEntry) → IsPermutation (all facts.entries) entries → IsIndex hash_of facts entries
  index_of facts entries p = λ hash id.
      sym (ap (find key_cmp (hash, id)) (map-id entries))
      ∙ sym (found-IsPermutation key_cmp itself key_cmp_total (all facts.entries) entries p (distinct_hashes facts.entries facts.sorted) (hash, id))
      ∙ ap (find key_cmp (hash, id)) (map-id (all facts.entries))
      ∙ found_all hash id facts.entries facts.sorted

  -- sorted, they rise
  pub sorted_hashes_rise : (es : List (Text × Fact)) (entries : List IndexEntry) → T (is_sorted text_cmp es) → IsPermutation (all es) entries
      → IsSortedBy is_before entries → IsRising hashed_cmp entries
  sorted_hashes_rise es entries h p sorted =
      sorted_rise hashed_cmp (λ e. (e, e)) hashed_cmp_total entries sorted
      (IsDistinct-IsPermutation (ties key_cmp itself) (λ x y. (eq_by_cmp_equiv key_cmp_total).symm x.0 y.0) (all es) entries p (distinct_hashes es h))

  ids_sorted : (es : List (Text × Fact)) → T (is_sorted text_cmp es) → IsSortedBy has_lesser_id (all es)
  ids_sorted es h =
      IsSortedBy-entries text_cmp nat_list_cmp_total (λ (c : IndexEntry). (c.0.1, c.1)) (all es)
      (subst (λ (fs : List (Text × Fact)). T (is_sorted text_cmp fs)) (sym (map-map (λ (c : IndexEntry). (c.0.1, c.1)) (hashed hash_of) es ∙ map-id es)) h)

  -- a stable sort by hashes alone of what stands by identifier
  pub sorted_stably : (es : List (Text × Fact)) (entries : List IndexEntry) → T (is_sorted text_cmp es) → IsSortedBy has_lesser_hash entries
      → IsStableBy has_lesser_hash (all es) entries → IsSortedBy is_before entries
  sorted_stably es entries h sorted stable = sorted_by_hash (all es) entries (ids_sorted es h) sorted stable
