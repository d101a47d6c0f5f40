-- A numeric table that is sorted with no row twice is the table of its rows.
use Rattle.std.proofs.Common.{◌≡◌, ◌∙◌, ap, sym, refl, subst, ℕ, Bool, true, false, ◌&&◌, ◌||◌, cond, T, List, []}
use Rattle.std.proofs.Common.{◌∷◌, map, fold, Option, Some, None, is_some, Less, Equal, Greater, is_lt, true≢false}
use Rattle.std.proofs.Common.{IsPermutation, String, string_bytes, Result, is_ok, length}
use Rattle.std.specs.Cmp.{first_so, second_so, tied_then}
use Rattle.std.specs.Cmp.Lexicographic.{texts_ties, same_text}
use Rattle.std.specs.Ordering.{match_ordering, eq_by_cmp}
use Rattle.std.specs.String.{string_eq}
use Rattle.std.specs.BTreeSet.{insert_key}
use Rattle.std.specs.List.{list_any, dedup, dedup_from, AllByRecursion}
use Rattle.std.specs.List.Sorted.{IsStrictlySortedBy, IsSearchInRange, IsBinarySearchResult}
use Rattle.std.specs.FinMap.Entries.{find, put, by_order, below_all, is_sorted, is_sorted-put, is_some-find, same_entries}
use Rattle.std.specs.declared.alloc.Global.{Global}
use Rattle.std.proofs.lemmas.List.Sorted.{list_any-IsPermutation, IsPermutation-map}
use Rattle.filing_model.specs.Common.Text.{Text, text_cmp, text_eq}
use Rattle.filing_model.specs.Oim.Facts.{Table, is_numeric}
use Rattle.filing_model.specs.Oim.Tables.{row_cmp, table_of}
use Rattle.filing_model.proofs.Oim.NumericTables.{row_cmp-total, row_cmp-Equal, is_numeric-table_of}
use Rattle.filing_model.proofs.Common.Tests.{both_hold, asked_twice}
use Rattle.oim_fact.specs.Texts.{row_of, rows_view}
use Rattle.oim_fact.specs.Tables.{row_entries, is_table}
use Rattle.oim_fact.proofs.SearchedEntries.{search_finds}

-- ---- what the definition makes is in order

put_key : (row : Text × Text) (rows : Table) → row_entries (insert_key row_cmp rows row) ≡ put row_cmp row tt (row_entries rows)
put_key row [] = refl
put_key row (other ∷ rows) =
    elim (row_cmp row other) as (λ o. row_entries (match_ordering o (row ∷ other ∷ rows) (other ∷ rows)
    (other ∷ insert_key row_cmp rows row))
    ≡ by_order o ((row, tt) ∷ row_entries (other ∷ rows)) ((other, tt) ∷ row_entries rows)
    ((other, tt) ∷ put row_cmp row tt (row_entries rows))) [
      | Less ↦ refl
      | Equal ↦ refl
      | Greater ↦ ap (λ es. (other, tt) ∷ es) (put_key row rows)
    ]

folded : (rows table : Table) → T (is_table table) → T (is_table (fold (insert_key row_cmp) table rows))
folded [] table h = h
folded (row ∷ rows) table h =
    folded rows (insert_key row_cmp table row)
    (subst (λ es. T (is_sorted row_cmp es)) (sym (put_key row table))
    (is_sorted-put row_cmp row_cmp-total row tt (row_entries table) h))

pub is_table-table_of : (rows : Table) → T (is_table (table_of rows))
is_table-table_of rows = folded rows [] tt

-- ---- tables with the same rows are equal

keys_keyed : (rows : Table) → map (λ e. e.0) (row_entries rows) ≡ rows
keys_keyed [] = refl
keys_keyed (row ∷ rows) = ap (λ rs. row ∷ rs) (keys_keyed rows)

-- a look-up finds a row where the table has it
pub is_numeric-find : (rows : Table) (concept : Text × Text) → is_some (find row_cmp concept (row_entries rows)) ≡ is_numeric rows concept
is_numeric-find rows concept =
    is_some-find row_cmp concept (row_entries rows) ∙ ap (λ rs. list_any (eq_by_cmp row_cmp concept) rs) (keys_keyed rows)
    ∙ sym (λ i. list_any (λ row. tied_then (text_cmp concept.0 row.0) (text_cmp concept.1 row.1) i) rows)

same_nothing : (x y : Option (Unit {0})) → is_some x ≡ is_some y → x ≡ y
same_nothing None None h = refl
same_nothing None (Some y) h = absurd (true≢false (sym h))
same_nothing (Some x) None h = absurd (true≢false h)
same_nothing (Some x) (Some y) h = refl

pub same_table : (rows others : Table) → T (is_table rows) → T (is_table others)
    → ((concept : Text × Text) → is_numeric rows concept ≡ is_numeric others concept) → rows ≡ others
same_table rows others h g same =
    sym (keys_keyed rows)
    ∙ ap (λ es. map (λ e. e.0) es)
    (same_entries row_cmp row_cmp-total row_cmp-Equal (row_entries rows) (row_entries others) h g
    (λ q. same_nothing _ _ (is_numeric-find rows q ∙ same q ∙ sym (is_numeric-find others q))))
    ∙ keys_keyed others

-- ---- rows that were sorted, of which equal neighbours were dropped

abbrev pub Held : Type 0
Held = String Global × String Global

abbrev pub held_eq : Held → Held → Bool
held_eq r s = string_eq r.0 s.0 && string_eq r.1 s.1

pub held_ties : (r s : Held) → held_eq r s ≡ eq_by_cmp (λ p q. row_cmp (row_of p) (row_of q)) r s
held_ties r s =
    (λ i. texts_ties (string_bytes r.0) (string_bytes s.0) i && texts_ties (string_bytes r.1) (string_bytes s.1) i)
    ∙ tied_then (text_cmp (string_bytes r.0) (string_bytes s.0)) (text_cmp (string_bytes r.1) (string_bytes s.1))

same_row : (r s : Held) → held_eq r s ≡ true → row_of r ≡ row_of s
same_row r s h =
    λ i. (
      same_text (string_bytes r.0) (string_bytes s.0) (sym (first_so (string_eq r.0 s.0) (string_eq r.1 s.1) h)) i,
      same_text (string_bytes r.1) (string_bytes s.1) (sym (second_so (string_eq r.0 s.0) (string_eq r.1 s.1) h)) i,
    )

module _ (test : Text × Text → Bool) where
  any_from : (r : Held) (rs : List Held) → list_any test (rows_view (dedup_from held_eq r rs)) ≡ (test (row_of r) || list_any test (rows_view rs))
  any_from r [] = refl
  any_from r (s ∷ rs) =
      elim (held_eq s r) as (λ b. held_eq s r ≡ b → list_any test
      (rows_view (cond b (dedup_from held_eq r rs) (r ∷ dedup_from held_eq s rs)))
      ≡ (test (row_of r) || (test (row_of s) || list_any test (rows_view rs)))) [
        | true ↦
            λ e. any_from r rs ∙ asked_twice (test (row_of r)) (list_any test (rows_view rs))
            ∙ ap (λ x. test (row_of r) || (test x || list_any test (rows_view rs))) (sym (same_row s r e))
        | false ↦ λ _. ap (λ b. test (row_of r) || b) (any_from s rs)
      ] refl

  pub any-dedup : (rs : List Held) → list_any test (rows_view (dedup held_eq rs)) ≡ list_any test (rows_view rs)
  any-dedup [] = refl
  any-dedup (r ∷ rs) = any_from r rs

below : (r : Held) (rs : List Held) → AllByRecursion (λ s. row_cmp (row_of r) (row_of s) ≡ Less) rs
    → T (below_all row_cmp (row_of r) (row_entries (rows_view rs)))
below r [] h = tt
below r (s ∷ rs) h = both_hold _ _ (subst (λ o. T (is_lt o)) (sym h.0) tt) (below r rs h.1)

pub is_table-held : (rs : List Held) → IsStrictlySortedBy (λ p q. row_cmp (row_of p) (row_of q)) rs → T (is_table (rows_view rs))
unfolding IsStrictlySortedBy
is_table-held [] h = tt
is_table-held (r ∷ rs) h = both_hold _ _ (below r rs h.0) (is_table-held rs h.1)

-- the table of the rows before they were sorted
pub table_of-kept : (rows sorted : List Held) → IsPermutation rows sorted
    → T (is_table (rows_view (dedup held_eq sorted))) → rows_view (dedup held_eq sorted) ≡ table_of (rows_view rows)
table_of-kept rows sorted moved h =
    same_table _ _ h (is_table-table_of (rows_view rows)) (λ concept.
    any-dedup (λ row. text_eq concept.0 row.0 && text_eq concept.1 row.1) sorted
    ∙ sym (list_any-IsPermutation (λ row. text_eq concept.0 row.0 && text_eq concept.1 row.1) (rows_view rows)
    (rows_view sorted) (IsPermutation-map row_of rows sorted moved))
    ∙ sym (is_numeric-table_of (rows_view rows) concept))

-- ---- a binary search

keyed_rows : (rs : List Held) → map (λ r. (row_of r, tt)) rs ≡ row_entries (rows_view rs)
keyed_rows [] = refl
keyed_rows (r ∷ rs) = ap (λ es. (row_of r, tt) ∷ es) (keyed_rows rs)

-- it finds a row where the table has it
pub search_is_numeric : (rs : List Held) (concept : Text × Text) (r : Result ℕ ℕ) → T (is_table (rows_view rs))
    → IsSearchInRange r (length rs) → IsBinarySearchResult (λ p. row_cmp (row_of p) concept) rs r
    → is_ok r ≡ is_numeric (rows_view rs) concept
search_is_numeric rs concept r h range result =
    search_finds row_cmp row_cmp-total (λ p. (row_of p, tt)) concept rs r
    (subst (λ es. T (is_sorted row_cmp es)) (sym (keyed_rows rs)) h) range result
    ∙ ap (λ es. is_some (find row_cmp concept es)) (keyed_rows rs)
    ∙ is_numeric-find (rows_view rs) concept
