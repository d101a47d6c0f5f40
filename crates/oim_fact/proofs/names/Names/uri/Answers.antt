use Rattle.std.proofs.Common.{◌∙◌, ap, sym, subst, T, Some, Ok, Err, string_bytes, get_or, rules}
use Rattle.std.specs.FinMap.Entries.{is_sorted}
use Rattle.std.proofs.lemmas.Fn.{always_returns_same}
use Rattle.filing_model.specs.Common.Text.{text_cmp}
use Rattle.filing_model.specs.Common.TextMap.{get, from_entries}
use Rattle.oim_fact.specs.Texts.{row_of, rows_view}
use Rattle.oim_fact.proofs.NamedRows.{searched_prefix}
use Rattle.oim_fact.proofs.names.Names.uri.Goals as goal

pub returns-in-Ok : goal.returns-in-Ok
returns-in-Ok c =
    ap (λ t. Some t) (c.as_str.ensures.value ∙ ap (λ row. string_bytes row.1) c.index.ensures
    ∙ ap (λ rows. string_bytes (get_or rows c.in-Ok.place c.index.result.now).1) (sym c.deref.ensures.value))
    ∙ sym (ap (λ names. get names.prefixes c.args.prefix.now) (sym c.self.view_is)
    ∙ ap (λ rows. get (from_entries (rows_view rows)) c.args.prefix.now) (sym c.deref.ensures.value)
    ∙ searched_prefix c.deref.result.now c.args.prefix.now (Ok c.in-Ok.place)
    (subst (λ rows. T (is_sorted text_cmp (rows_view rows))) (sym c.deref.ensures.value) c.self.invariant)
    c.in-Ok.ensures.bound
    (c.in-Ok.ensures.position (λ row. text_cmp (row_of row).0 c.args.prefix.now) (always_returns_same _ _ _ (λ a r f' k. search rules)))
    c.index.result.now)

pub returns-in-Err : goal.returns-in-Err
returns-in-Err c =
    sym (ap (λ names. get names.prefixes c.args.prefix.now) (sym c.self.view_is)
    ∙ ap (λ rows. get (from_entries (rows_view rows)) c.args.prefix.now) (sym c.deref.ensures.value)
    ∙ searched_prefix c.deref.result.now c.args.prefix.now (Err c.in-Err.field-0)
    (subst (λ rows. T (is_sorted text_cmp (rows_view rows))) (sym c.deref.ensures.value) c.self.invariant)
    c.in-Err.ensures.bound
    (c.in-Err.ensures.position (λ row. text_cmp (row_of row).0 c.args.prefix.now) (always_returns_same _ _ _ (λ a r f' k. search rules))))
