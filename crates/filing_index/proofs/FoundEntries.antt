-- What is found by a hash is what passes the test in the report: both rise by identifier, and answer alike at each.
use Rattle.std.proofs.Common.{◌≡◌, ◌∙◌, ap, sym, refl, subst, ℕ, Bool, true, false, cond, ◌&&◌, T, List, [], ◌∷◌}
use Rattle.std.proofs.Common.{map, filter, Option, Some, None, Ordering, Less, Equal, Greater, is_eq, is_lt}
use Rattle.std.proofs.Common.{true≢false}
use Rattle.std.specs.Prelude.{option_and_then, ◌==◌}
use Rattle.std.specs.Ordering.{nat_cmp, ordering_then}
use Rattle.std.specs.Cmp.{tied_itself, nat_cmp_total, nat_eq_equiv}
use Rattle.std.specs.Cmp.Lexicographic.{nat_list_cmp_total}
use Rattle.std.specs.FinMap.{nat_cmp-IsAntisymmetric}
use Rattle.std.specs.FinMap.Entries.{find, is_sorted, below_all, same_entries}
use Rattle.std.specs.List.{AllByRecursion}
use Rattle.std.proofs.lemmas.List.Elements.{filter_passes, All-filter, recursion_from_All}
use Rattle.sorted_pages.specs.Sorted.{IsRising, keyed}
use Rattle.sorted_pages.specs.Ranges.{within}
use Rattle.filing_model.specs.Common.Text.{Text, text_cmp}
use Rattle.filing_model.specs.Common.TextMap.{TextMap, get}
use Rattle.filing_model.specs.Oim.Facts.{Fact}
use Rattle.filing_model.specs.Sessions.Queries.{is_after, ids_after}
use Rattle.filing_model.proofs.Common.Tests.{both_hold, first_holds, second_holds, both_are_equal}
use Rattle.filing_model.proofs.Common.Texts.{text_cmp-Equal}
use Rattle.filing_model.proofs.Common.FilteredEntries.{only, sorted-filter, find-filter}
use Rattle.filing_index.specs.Index.{IndexEntry, key_cmp, hashed_cmp, if_hashed, IsIndex}
use Rattle.filing_index.specs.Found.{unhashed, passing, found, HaveHash, side_after, side_of}
use Rattle.filing_index.proofs.KeptElements.{filter-true, map-filter}

-- ---- keys

pub key_cmp-Equal : (x y : ℕ × Text) → key_cmp x y ≡ Equal → x ≡ y
key_cmp-Equal x y h =
    let parts = both_are_equal (nat_cmp x.0 y.0) (text_cmp x.1 y.1) h in
    λ i. (nat_cmp-IsAntisymmetric x.0 y.0 parts.0 i, text_cmp-Equal x.1 y.1 parts.1 i)

-- rising entries are entries in the order of their keys
below_keyed : (x : IndexEntry) (es : List IndexEntry) → below_all hashed_cmp x (keyed es) ≡ below_all key_cmp x.0 es
below_keyed x [] = refl
below_keyed x (e ∷ es) = ap (λ b. is_lt (key_cmp x.0 e.0) && b) (below_keyed x es)

pub sorted_from_rising : (es : List IndexEntry) → IsRising hashed_cmp es → T (is_sorted key_cmp es)
sorted_from_rising [] h = tt
sorted_from_rising (e ∷ es) h =
    both_hold _ _ (subst T (below_keyed e es) (first_holds _ _ h)) (sorted_from_rising es (second_holds (below_all hashed_cmp e (keyed es)) _ h))

-- ---- entries of one hash

module _ (hash : ℕ) where
  abbrev Has : IndexEntry → Type 0
  Has e = e.0.0 ≡ hash

  -- they are told apart by their identifiers
  by_identifier : (n m : ℕ) (x y : Text) → n ≡ hash → m ≡ hash → key_cmp (n, x) (m, y) ≡ text_cmp x y
  by_identifier n m x y p q =
      (λ i. ordering_then (nat_cmp (p i) (q i)) (text_cmp x y)) ∙ ap (λ o. ordering_then o (text_cmp x y)) (tied_itself nat_cmp_total hash)

  below_unhashed : (e : IndexEntry) (es : List IndexEntry) → Has e → AllByRecursion Has es → T (below_all key_cmp e.0 es)
      → T (below_all text_cmp e.0.1 (unhashed es))
  below_unhashed e [] p h b = tt
  below_unhashed e (f ∷ es) p h b =
      both_hold _ _ (subst (λ o. T (is_lt o)) (by_identifier e.0.0 f.0.0 e.0.1 f.0.1 p h.0) (first_holds _ _ b))
      (below_unhashed e es p h.1 (second_holds (is_lt (key_cmp e.0 f.0)) _ b))

  sorted_unhashed : (es : List IndexEntry) → AllByRecursion Has es → T (is_sorted key_cmp es) → T (is_sorted text_cmp (unhashed es))
  sorted_unhashed [] h s = tt
  sorted_unhashed (e ∷ es) h s =
      both_hold _ _ (below_unhashed e es h.0 h.1 (first_holds _ _ s)) (sorted_unhashed es h.1 (second_holds (below_all key_cmp e.0 es) _ s))

  find-unhashed : (q : Text) (es : List IndexEntry) → AllByRecursion Has es → find text_cmp q (unhashed es) ≡ find key_cmp (hash, q) es
  find-unhashed q [] h = refl
  find-unhashed q (e ∷ es) h =
      λ i. cond (is_eq (sym (by_identifier hash e.0.0 q e.0.1 refl h.0) i)) (Some e.1) (find-unhashed q es h.1 i)

  -- ---- those in the range of the hash

  first_equal : (o p : Ordering) → is_eq (ordering_then o p) ≡ true → o ≡ Equal
  first_equal Less p h = absurd (true≢false (sym h))
  first_equal Equal p h = refl
  first_equal Greater p h = absurd (true≢false (sym h))

  module _ (after : Option Text) where
    abbrev is_within : IndexEntry → Bool
    is_within e = is_eq (side_of hash after e)

    all_have : (es : List IndexEntry) → AllByRecursion (λ e. is_within e ≡ true) es → AllByRecursion Has es
    all_have [] h = tt
    all_have (e ∷ es) h =
        (nat_cmp-IsAntisymmetric e.0.0 hash (first_equal (nat_cmp e.0.0 hash) (side_after after e.0.1) h.0), all_have es h.1)

    here : (b : Bool) → is_eq (cond b Equal Less) ≡ b
    here true = refl
    here false = refl

    -- an identifier under the hash is in the range where it is greater
    within_by_identifier : (q : Text) → is_eq (ordering_then (nat_cmp hash hash) (side_after after q)) ≡ is_after after q
    within_by_identifier q = ap (λ o. is_eq (ordering_then o (side_after after q))) (tied_itself nat_cmp_total hash) ∙ here (is_after after q)

    module _ (test : Fact → Bool) where
      -- what the index shows of a fact is what the report shows of it
      picks : (fact : Fact) (greater passes hashed : Bool) → test fact ≡ passes → (passes ≡ true → hashed ≡ true)
          → only test (only (λ _. greater) (cond hashed (Some fact) None)) ≡ only (λ _. greater) (cond passes (Some fact) None)
      picks fact true true true is follows = ap (λ b. cond b (Some fact) None) is
      picks fact false true true is follows = refl
      picks fact greater true false is follows = absurd (true≢false (sym (follows refl)))
      picks fact true false true is follows = ap (λ b. cond b (Some fact) None) is
      picks fact false false true is follows = refl
      picks fact true false false is follows = refl
      picks fact false false false is follows = refl

      module _ (hash_of : Fact → ℕ) (have : HaveHash hash_of hash test) where
        same_hash : (fact : Fact) → test fact ≡ true → (hash_of fact == hash) ≡ true
        same_hash fact passes = ap (λ n. n == hash) (have fact passes) ∙ nat_eq_equiv.refl hash

        shown : (q : Text) (o : Option Fact)
            → only test (only (λ fact. is_eq (side_of hash after ((hash, q), fact))) (option_and_then (if_hashed hash_of hash) o))
            ≡ only (λ _. is_after after q) (only test o)
        shown q None = refl
        shown q (Some fact) =
            ap (λ b. only test (only (λ _. b) (cond (hash_of fact == hash) (Some fact) None))) (within_by_identifier q)
            ∙ picks fact (is_after after q) (test fact) (hash_of fact == hash) refl (same_hash fact)

        module _ (facts : TextMap Fact) (es : List IndexEntry) (rising : IsRising hashed_cmp es) (index : IsIndex hash_of facts es) where
          sorted : T (is_sorted key_cmp es)
          sorted = sorted_from_rising es rising

          abbrev pub inner : List IndexEntry
          inner = within (side_of hash after) es

          own : AllByRecursion Has (filter (λ e. test e.1) inner)
          own =
              all_have (filter (λ e. test e.1) inner) (recursion_from_All (λ e. is_within e ≡ true) (filter (λ e. test e.1) inner)
              (All-filter (λ e. test e.1) (λ e. is_within e ≡ true) inner (filter_passes is_within es)))

          sorted_inner : T (is_sorted key_cmp inner)
          sorted_inner = sorted-filter key_cmp (λ k fact. is_within (k, fact)) es sorted

          sorted_found : T (is_sorted text_cmp (found test after facts))
          sorted_found =
              sorted-filter text_cmp (λ id fact. is_after after id) (filter (λ e. test e.1) facts.entries)
              (sorted-filter text_cmp (λ id fact. test fact) facts.entries facts.sorted)

          answers : (q : Text) → find text_cmp q (passing test inner) ≡ find text_cmp q (found test after facts)
          answers q =
              find-unhashed q (filter (λ e. test e.1) inner) own
              ∙ find-filter key_cmp (λ k fact. test fact) key_cmp-Equal (hash, q) inner sorted_inner
              ∙ ap (only test) (find-filter key_cmp (λ k fact. is_within (k, fact)) key_cmp-Equal (hash, q) es sorted)
              ∙ ap (λ o. only test (only (λ fact. is_within ((hash, q), fact)) o)) (index hash q)
              ∙ shown q (get facts q)
              ∙ sym (ap (only (λ _. is_after after q)) (find-filter text_cmp (λ id fact. test fact) text_cmp-Equal q facts.entries facts.sorted))
              ∙ sym (find-filter text_cmp (λ id fact. is_after after id) text_cmp-Equal q (filter (λ e. test e.1) facts.entries)
              (sorted-filter text_cmp (λ id fact. test fact) facts.entries facts.sorted))

          pub found_is : passing test inner ≡ found test after facts
          found_is =
              same_entries text_cmp nat_list_cmp_total text_cmp-Equal (passing test inner) (found test after facts)
              (sorted_unhashed (filter (λ e. test e.1) inner) own
              (sorted-filter key_cmp (λ k fact. test fact) inner sorted_inner))
              sorted_found answers

-- ---- what is found, without a least identifier and by identifiers

pub found_all : (test : Fact → Bool) (facts : TextMap Fact) → found test None facts ≡ filter (λ e. test e.1) facts.entries
found_all test facts = filter-true (filter (λ e. test e.1) facts.entries)

pub found_ids : (test : Fact → Bool) (after : Option Text) (facts : TextMap Fact)
    → map (λ e. e.0) (found test after facts) ≡ ids_after after (map (λ e. e.0) (filter (λ e. test e.1) facts.entries))
found_ids test after facts = map-filter (λ e. e.0) (is_after after) (filter (λ e. test e.1) facts.entries)
