-- Prefixes with their URIs that are sorted by either column.
use Rattle.std.proofs.Common.{◌≡◌, ◌∙◌, ap, sym, refl, subst, Bool, true, false, cond, T, List, [], ◌∷◌, map}
use Rattle.std.proofs.Common.{Result, Ok, Err, IsPermutation, is_lt, string_bytes, ℕ, length, get_or, Option, Some}
use Rattle.std.proofs.Common.{None, MatchResult}
use Rattle.std.specs.Result.{result_map_both}
use Rattle.std.specs.Cmp.{IsStrictWeakOrder}
use Rattle.std.specs.Cmp.Lexicographic.{nat_list_cmp_total}
use Rattle.std.specs.List.Sorted.{IsSortedBy, IsSearchInRange, IsBinarySearchResult}
use Rattle.std.specs.FinMap.Entries.{is_sorted}
use Rattle.std.proofs.lemmas.List.Sorted.{IsPermutation-map, ranks_by}
use Rattle.filing_model.specs.Common.Text.{Text, text_cmp, has_repeats}
use Rattle.filing_model.specs.Common.TextMap.{TextMap, get, from_entries}
use Rattle.filing_model.specs.Oim.Facts.{Names, Table}
use Rattle.filing_model.specs.declared.faults.NamesFault.{NamesFault}
use Rattle.filing_model.specs.declared.faults.NamesFault.TheVariants.{NameTwice, AliasTwice}
use Rattle.filing_model.proofs.Oim.DimensionSets.{prefixes_of-IsPermutation}
use Rattle.filing_model.proofs.Common.MapsOfLists.{sorted_from_rises}
use Rattle.filing_model.proofs.Common.Texts.{has_repeats-IsPermutation}
use Rattle.filing_model.proofs.Common.TextMaps.{get-from_entries}
use Rattle.oim_fact.proofs.SearchedEntries.{searched}
use Rattle.oim_fact.specs.Texts.{row_of, rows_view, names_in, NoneFalls, has_equal_neighbours}
use Rattle.oim_fact.specs.Names.{names_of, text_in, column}
use Rattle.oim_fact.specs.declared.names.Column.{Column}
use Rattle.oim_fact.specs.declared.names.Column.TheVariants.{Prefix, Uri}
use Rattle.oim_fact.proofs.SortedTexts.{Rises-names, repeated_are_neighbours, NoneFalls-sorted}
use Rattle.oim_fact.proofs.NumericRows.{Held}

abbrev pub held_text : Column → Held → Text
held_text c row = text_in c (row_of row)

abbrev pub is_before : Column → Held → Held → Bool
is_before c row other = is_lt (text_cmp (held_text c row) (held_text c other))

pub is_before-ranks : (c : Column) → IsStrictWeakOrder (is_before c)
is_before-ranks c = ranks_by nat_list_cmp_total (held_text c)

held_column : (c : Column) (rows : List Held) → map (held_text c) rows ≡ column c (rows_view rows)
held_column c [] = refl
held_column c (row ∷ rows) = ap (λ ts. held_text c row ∷ ts) (held_column c rows)

pub NoneFalls-column : (c : Column) (rows : List Held) → IsSortedBy (is_before c) rows → NoneFalls (column c (rows_view rows))
NoneFalls-column c rows h = subst NoneFalls (held_column c rows) (NoneFalls-sorted (held_text c) (is_before c) (λ x y apart. apart) rows h)

-- ---- texts that stand twice in a column

named_by : (c : Column) (rows : List (Text × Text)) → names_in (map (λ r. (text_in c r, r)) rows) ≡ column c rows
named_by c [] = refl
named_by c (row ∷ rows) = ap (λ ts. text_in c row ∷ ts) (named_by c rows)

repeated : (c : Column) (rows : List (Text × Text)) → NoneFalls (column c rows) → has_repeats (column c rows) ≡ has_equal_neighbours (column c rows)
repeated c rows h =
    subst (λ ts. has_repeats ts ≡ has_equal_neighbours ts) (named_by c rows)
    (repeated_are_neighbours (map (λ r. (text_in c r, r)) rows) (subst NoneFalls (sym (named_by c rows)) h))

pub same_repeats : (c : Column) (rows sorted : List Held) → IsPermutation rows sorted
    → has_repeats (column c (rows_view rows)) ≡ has_repeats (column c (rows_view sorted))
same_repeats c rows sorted moved =
    has_repeats-IsPermutation _ _ (IsPermutation-map (text_in c) (rows_view rows) (rows_view sorted)
    (IsPermutation-map row_of rows sorted moved))

-- the test on what was sorted is that on what it was sorted from
pub repeats_from_sorted : (c : Column) (rows sorted : List Held) → IsPermutation rows sorted
    → NoneFalls (column c (rows_view sorted))
    → has_equal_neighbours (column c (rows_view sorted)) ≡ has_repeats (column c (rows_view rows))
repeats_from_sorted c rows sorted moved h = sym (repeated c (rows_view sorted) h) ∙ sym (same_repeats c rows sorted moved)

-- ---- the names

abbrev named : Table → Result (TextMap Text) NamesFault → Result Names NamesFault
named table prefixes = result_map_both (λ prefixes. record { prefixes = prefixes; table = table }) (λ fault. fault) prefixes

-- the fault or the map of prefixes of which none stands twice
abbrev unaliased : Bool → List (Text × Text) → Result (TextMap Text) NamesFault
unaliased is_aliased bound = cond is_aliased (Err AliasTwice) (Ok (from_entries bound))

pub name_twice : (bound : List (Text × Text)) (table : Table) → has_repeats (column Prefix bound) ≡ true → Err NameTwice ≡ names_of bound table
name_twice bound table h = sym (ap (λ b. named table (cond b (Err NameTwice) (unaliased (has_repeats (column Uri bound)) bound))) h)

pub alias_twice : (bound : List (Text × Text)) (table : Table) → has_repeats (column Prefix bound) ≡ false
    → has_repeats (column Uri bound) ≡ true → Err AliasTwice ≡ names_of bound table
alias_twice bound table h k = sym (λ i. named table (cond (h i) (Err NameTwice) (unaliased (k i) bound)))

pub names_of-sorted : (rows sorted : List Held) (table : Table) → IsPermutation rows sorted
    → has_repeats (column Prefix (rows_view rows)) ≡ false → has_repeats (column Uri (rows_view rows)) ≡ false
    → Ok (record { prefixes = from_entries (rows_view sorted); table = table }) ≡ names_of (rows_view rows) table
names_of-sorted rows sorted table moved h k =
    sym (ap (named table) (prefixes_of-IsPermutation (rows_view rows) (rows_view sorted) (IsPermutation-map row_of rows sorted moved))
    ∙ (λ i. named table (cond ((sym (same_repeats Prefix rows sorted moved) ∙ h) i) (Err NameTwice)
    (unaliased ((sym (same_repeats Uri rows sorted moved) ∙ k) i) (rows_view sorted)))))

pub is_sorted-rows : (rows sorted : List Held) → IsPermutation rows sorted
    → NoneFalls (column Prefix (rows_view sorted)) → has_repeats (column Prefix (rows_view rows)) ≡ false
    → T (is_sorted text_cmp (rows_view sorted))
is_sorted-rows rows sorted moved rises once =
    sorted_from_rises (rows_view sorted) (Rises-names (rows_view sorted) rises)
    (sym (same_repeats Prefix rows sorted moved) ∙ once)

-- ---- a binary search

abbrev bound_to : List Held → Text → Option Text
bound_to rows prefix = get (from_entries (rows_view rows)) prefix

-- it finds the URI that the prefix is bound to
pub searched_prefix : (rows : List Held) (prefix : Text) (r : Result ℕ ℕ) → T (is_sorted text_cmp (rows_view rows))
    → IsSearchInRange r (length rows) → IsBinarySearchResult (λ row. text_cmp (row_of row).0 prefix) rows r
    → MatchResult r (λ i. (d : Held) → bound_to rows prefix ≡ Some (string_bytes (get_or rows i d).1)) (λ i. bound_to rows prefix ≡ None)
searched_prefix rows prefix (Ok i) h range at =
    λ d. get-from_entries (rows_view rows) prefix
    ∙ searched text_cmp nat_list_cmp_total row_of prefix rows (Ok i) h range at d
searched_prefix rows prefix (Err i) h range split =
    get-from_entries (rows_view rows) prefix
    ∙ searched text_cmp nat_list_cmp_total row_of prefix rows (Err i) h range split
