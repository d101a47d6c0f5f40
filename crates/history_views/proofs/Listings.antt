-- The list of the reports of a version, name by name.
use Rattle.std.proofs.Common.{◌≡◌, ◌∙◌, ap, sym, refl, subst, T, Bool, true, false, cond, ◌&&◌, List, [], ◌∷◌, ◌++◌, Option, Some, None, is_some}
use Rattle.std.proofs.Common.{option_map, is_lt, append-nil}
use Rattle.std.specs.Option.{option_map_or}
use Rattle.std.specs.Cmp.Lexicographic.{nat_list_cmp_total}
use Rattle.std.specs.FinMap.Entries.{find, is_sorted, below_all, same_entries}
use Rattle.filing_model.specs.Common.Text.{Text, text_cmp, text_eq}
use Rattle.filing_model.specs.Common.TextMap.{TextMap, get}
use Rattle.filing_model.specs.Oim.Reports.{Report}
use Rattle.filing_model.specs.Sessions.Repository.{Repository, report_at}
use Rattle.filing_model.proofs.Common.Texts.{text_cmp-Equal}
use Rattle.filing_laws.proofs.Lists.EachElement.{Each}
use Rattle.filing_laws.proofs.Updating.FirstFound.{each_is_found}
use Rattle.history_views.specs.Listing.{head_of, listing, report_row, report_rows}
use Rattle.history_views.specs.Names.{HasNames}

-- the line of the report of a name, if it is there
abbrev pub row_at : Repository → Text → Text
row_at c name = option_map_or (report_row name) (report_at c name) []

-- those of the names of some entries
abbrev pub rows_at : {X : Type 0} → Repository → List (Text × X) → Text
rows_at c [] = []
rows_at c (e ∷ es) = row_at c e.0 ++ rows_at c es

-- ---- entries without what stands beside their names

bare : {X : Type 0} → List (Text × X) → List (Text × Bool)
bare [] = []
bare (e ∷ es) = (e.0, true) ∷ bare es

find_bare : {X : Type 0} (q : Text) (es : List (Text × X)) → find text_cmp q (bare es) ≡ option_map (λ x. true) (find text_cmp q es)
unfolding bare
find_bare q [] = refl
find_bare {X} q (e ∷ es) = by (text_eq q e.0) (find_bare q es)
  where
    by : (b : Bool) → find text_cmp q (bare es) ≡ option_map (λ x. true) (find text_cmp q es)
        → cond b (Some true) (find text_cmp q (bare es)) ≡ option_map (λ (x : X). true) (cond b (Some e.1) (find text_cmp q es))
    by true rest = refl
    by false rest = rest

below_bare : {X : Type 0} (x : Text) (es : List (Text × X)) → below_all text_cmp x (bare es) ≡ below_all text_cmp x es
unfolding bare
below_bare x [] = refl
below_bare x (e ∷ es) = ap (λ b. is_lt (text_cmp x e.0) && b) (below_bare x es)

sorted_bare : {X : Type 0} (es : List (Text × X)) → is_sorted text_cmp (bare es) ≡ is_sorted text_cmp es
unfolding bare
sorted_bare [] = refl
sorted_bare (e ∷ es) = λ i. below_bare e.0 es i && sorted_bare es i

rows_bare : {X : Type 0} (c : Repository) (es : List (Text × X)) → rows_at c (bare es) ≡ rows_at c es
unfolding bare
rows_bare c [] = refl
rows_bare c (e ∷ es) = ap (λ text. row_at c e.0 ++ text) (rows_bare c es)

alike : {X Y : Type 0} (o : Option X) (p : Option Y) → is_some o ≡ is_some p → option_map (λ x. true) o ≡ option_map (λ y. true) p
alike None None same = refl
alike (Some x) (Some y) same = refl
alike None (Some y) same = cc
alike (Some x) None same = cc

-- ---- the names of the reports

same_bare : {X : Type 0} (names : TextMap X) (c : Repository) → HasNames names c → bare names.entries ≡ bare c.reports.entries
same_bare names c has =
    same_entries text_cmp nat_list_cmp_total text_cmp-Equal (bare names.entries) (bare c.reports.entries)
    (subst T (sym (sorted_bare names.entries)) names.sorted) (subst T (sym (sorted_bare c.reports.entries)) c.reports.sorted)
    (λ q. find_bare q names.entries ∙ alike (get names q) (report_at c q) (has q) ∙ sym (find_bare q c.reports.entries))

-- each report is found under its name
rows_found : (c : Repository) (es : List (Text × Report)) → Each (λ e. report_at c e.0 ≡ Some e.1) es → rows_at c es ≡ report_rows es
rows_found c [] all = refl
rows_found c (e ∷ es) all =
    ap (λ o. option_map_or (report_row e.0) o [] ++ rows_at c es) all.0 ∙ ap (λ text. report_row e.0 e.1 ++ text) (rows_found c es all.1)

-- the lines of the names are those of the reports
pub rows_by_names : {X : Type 0} (names : TextMap X) (c : Repository) → HasNames names c → rows_at c names.entries ≡ report_rows c.reports.entries
rows_by_names names c has =
    sym (rows_bare c names.entries) ∙ ap (rows_at c) (same_bare names c has) ∙ rows_bare c c.reports.entries
    ∙ rows_found c c.reports.entries (each_is_found c.reports.entries c.reports.sorted)

-- where no name is left, all reports are listed
pub all_listed : {X : Type 0} (names : TextMap X) (c : Repository) (out : Text) (left : List (Text × X)) → left ≡ []
    → out ++ rows_at c left ≡ head_of c ++ rows_at c names.entries → HasNames names c → out ≡ listing c
all_listed names c out left none so_far has =
    sym (append-nil out) ∙ ap (λ es. out ++ rows_at c es) (sym none) ∙ so_far ∙ ap (λ rows. head_of c ++ rows) (rows_by_names names c has)
