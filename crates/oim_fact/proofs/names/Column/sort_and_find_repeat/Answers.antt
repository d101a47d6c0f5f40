use Rattle.std.proofs.Common.{◌∙◌, ap, rules}
use Rattle.std.proofs.lemmas.Fn.{always_returns_same}
use Rattle.oim_fact.specs.Texts.{rows_view, has_equal_neighbours}
use Rattle.oim_fact.specs.Names.{column}
use Rattle.oim_fact.proofs.NamedRows.{is_before, is_before-ranks, NoneFalls-column, repeats_from_sorted}
use Rattle.oim_fact.proofs.names.Column.sort_and_find_repeat.Goals as goal

pub returns-clause-rises : goal.returns-clause-rises
returns-clause-rises c =
    NoneFalls-column c.args.self c.sort_unstable_by.new.self.items
    (c.sort_unstable_by.ensures.sorted (is_before c.args.self) (is_before-ranks c.args.self) (always_returns_same _ _ _ (λ a r f' k. search rules)))

pub returns-clause-repeats : goal.returns-clause-repeats
returns-clause-repeats c =
    c.has_equal_neighbours.ensures
    ∙ ap (λ rows. has_equal_neighbours (column c.args.self (rows_view rows))) c.deref.ensures.value
    ∙ repeats_from_sorted c.args.self c.args.rows.now.items c.sort_unstable_by.new.self.items c.sort_unstable_by.ensures.permutation
    (NoneFalls-column c.args.self c.sort_unstable_by.new.self.items
    (c.sort_unstable_by.ensures.sorted (is_before c.args.self) (is_before-ranks c.args.self) (always_returns_same _ _ _ (λ a r f' k. search rules))))
