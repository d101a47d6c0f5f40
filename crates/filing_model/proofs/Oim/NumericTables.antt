-- A numeric table has the rows that it is made of, in byte order, none twice.
use Rattle.std.proofs.Common.{◌≡◌, Bool, true, false, ◌||◌, [], ◌∷◌, fold, Less, Equal, Greater, ap, sym, ◌∙◌, refl}
use Rattle.std.specs.Cmp.{IsTotalOrder, on_total, then_total}
use Rattle.std.specs.Cmp.Lexicographic.{nat_list_cmp_total}
use Rattle.std.specs.Ordering.{match_ordering}
use Rattle.std.specs.BTreeSet.{insert_key}
use Rattle.std.specs.List.{list_any}
use Rattle.filing_model.specs.Common.Text.{Text, text_cmp}
use Rattle.filing_model.specs.Oim.Facts.{Table, is_numeric}
use Rattle.filing_model.specs.Oim.Tables.{row_cmp, table_of}
use Rattle.filing_model.proofs.Common.Texts.{text_cmp-Equal}
use Rattle.filing_model.proofs.Common.Tests.{both_are_equal, asked_twice}

pub row_cmp-total : IsTotalOrder row_cmp
row_cmp-total = then_total (on_total (λ p. p.0) nat_list_cmp_total) (on_total (λ p. p.1) nat_list_cmp_total)

pub row_cmp-Equal : (x y : Text × Text) → row_cmp x y ≡ Equal → x ≡ y
row_cmp-Equal x y h = let parts = both_are_equal (text_cmp x.0 y.0) (text_cmp x.1 y.1) h in λ i. (text_cmp-Equal x.0 y.0 parts.0 i, text_cmp-Equal x.1 y.1 parts.1 i)

swapped : (a b c : Bool) → (a || (b || c)) ≡ (b || (a || c))
swapped true true c = refl
swapped true false c = refl
swapped false b c = refl

module _ (test : Text × Text → Bool) where
  any_inserted : (row : Text × Text) (rows : Table) → list_any test (insert_key row_cmp rows row) ≡ (test row || list_any test rows)
  any_inserted row [] = refl
  any_inserted row (other ∷ rows) =
      elim (row_cmp row other) as (λ o. row_cmp row other ≡ o
      → list_any test (match_ordering o (row ∷ other ∷ rows) (other ∷ rows) (other
      ∷ insert_key row_cmp rows row)) ≡ (test row || (test other || list_any test rows))) [
        | Less ↦ λ _. refl
        | Equal ↦ λ e. asked_twice (test other) (list_any test rows) ∙ ap (λ r. test r || (test other || list_any test rows)) (sym (row_cmp-Equal row other e))
        | Greater ↦ λ _. ap (λ b. test other || b) (any_inserted row rows) ∙ swapped (test other) (test row) (list_any test rows)
      ] refl

  any_folded : (rows table : Table) → list_any test (fold (insert_key row_cmp) table rows) ≡ (list_any test rows || list_any test table)
  any_folded [] table = refl
  any_folded (row ∷ rows) table =
      any_folded rows (insert_key row_cmp table row) ∙ ap (λ b. list_any test rows || b) (any_inserted row table)
      ∙ swapped (list_any test rows) (test row) (list_any test table) ∙ sym (grouped (test row) (list_any test rows) (list_any test table))
    where
      grouped : (a b c : Bool) → ((a || b) || c) ≡ (a || (b || c))
      grouped true b c = refl
      grouped false b c = refl

alone : (b : Bool) → (b || false) ≡ b
alone true = refl
alone false = refl

pub is_numeric-table_of : (rows : Table) (concept : Text × Text) → is_numeric (table_of rows) concept ≡ is_numeric rows concept
is_numeric-table_of rows concept = any_folded _ rows [] ∙ alone _
