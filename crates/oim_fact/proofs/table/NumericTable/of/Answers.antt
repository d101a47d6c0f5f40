-- What is sorted, and of which equal neighbours are dropped, is the table.
use Rattle.std.proofs.Common.{◌∙◌, ap, sym, subst, T, Ok}
use Rattle.std.specs.Cmp.{on_total}
use Rattle.std.proofs.lemmas.List.Filters.{dedup_is}
use Rattle.std.proofs.lemmas.List.Kept.{IsStrictlySortedBy-dedup}
use Rattle.filing_model.proofs.Oim.NumericTables.{row_cmp-total}
use Rattle.oim_fact.specs.Texts.{row_of, rows_view}
use Rattle.oim_fact.specs.Tables.{is_table}
use Rattle.oim_fact.proofs.NumericRows.{held_eq, held_ties, is_table-held, table_of-kept}
use Rattle.oim_fact.proofs.table.NumericTable.of.Goals as goal

pub invariant_of-result : goal.invariant_of-result
invariant_of-result c =
    subst (λ rs. T (is_table (rows_view rs))) (sym (dedup_is held_eq c.sort_unstable.new.self.items c.dedup.new.self.items c.dedup.ensures.filtered))
    (is_table-held _ (IsStrictlySortedBy-dedup (on_total row_of row_cmp-total) held_ties c.sort_unstable.new.self.items
    c.sort_unstable.ensures.sorted))

pub returns : goal.returns
returns c =
    ap (λ rs. Ok rs)
    (ap rows_view (dedup_is held_eq c.sort_unstable.new.self.items c.dedup.new.self.items c.dedup.ensures.filtered)
    ∙ table_of-kept c.args.rows.items c.sort_unstable.new.self.items c.sort_unstable.ensures.permutation
    (is_table-held _ (IsStrictlySortedBy-dedup (on_total row_of row_cmp-total) held_ties c.sort_unstable.new.self.items
    c.sort_unstable.ensures.sorted)))
