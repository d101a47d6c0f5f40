use Rattle.std.proofs.Common.{◌∙◌, ap, sym, subst, T, rules}
use Rattle.std.proofs.lemmas.Fn.{always_returns_same}
use Rattle.filing_model.specs.Common.Text.{Text}
use Rattle.filing_model.specs.Oim.Facts.{is_numeric}
use Rattle.filing_model.specs.Oim.Tables.{row_cmp}
use Rattle.oim_fact.specs.Texts.{row_of, rows_view}
use Rattle.oim_fact.specs.Tables.{is_table}
use Rattle.oim_fact.proofs.NumericRows.{search_is_numeric}
use Rattle.oim_fact.proofs.table.NumericTable.has.Goals as goal

pub returns : goal.returns
returns c =
    let concept : Text × Text = (c.args.uri.now, c.args.local.now) in
    c.is_ok.ensures.value
    ∙ search_is_numeric c.deref.result.now concept c.binary_search_by.result
    (subst (λ rs. T (is_table (rows_view rs))) (sym c.deref.ensures.value) c.self.invariant)
    c.binary_search_by.ensures.bound
    (c.binary_search_by.ensures.position (λ p. row_cmp (row_of p) concept) (always_returns_same _ _ _ (λ a r f' k. search rules)))
    ∙ ap (λ rs. is_numeric (rows_view rs) concept) c.deref.ensures.value
    ∙ ap (λ rows. is_numeric rows concept) c.self.view_is
