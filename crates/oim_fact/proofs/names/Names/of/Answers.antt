use Rattle.std.proofs.Common.{◌∙◌, sym}
use Rattle.std.specs.Arc.{arc_value}
use Rattle.std.proofs.lemmas.List.Sorted.{IsPermutation-trans}
use Rattle.oim_fact.specs.Texts.{rows_view}
use Rattle.oim_fact.specs.declared.names.Column.TheVariants.{Prefix}
use Rattle.oim_fact.proofs.NamedRows.{same_repeats, name_twice, alias_twice, names_of-sorted, is_sorted-rows}
use Rattle.oim_fact.proofs.names.Names.of.Goals as goal

pub returns-then-sort_and_find_repeat : goal.returns-then-sort_and_find_repeat
returns-then-sort_and_find_repeat c =
    name_twice (rows_view c.args.prefixes.items) (arc_value c.args.table)
    (same_repeats Prefix c.args.prefixes.items c.sort_and_find_repeat-has_alias.new.rows.items c.sort_and_find_repeat-has_alias.ensures.moved
    ∙ sym c.sort_and_find_repeat.ensures.repeats ∙ c.if-sort_and_find_repeat.true)

pub returns-then-has_alias : goal.returns-then-has_alias
returns-then-has_alias c =
    alias_twice (rows_view c.args.prefixes.items) (arc_value c.args.table)
    (same_repeats Prefix c.args.prefixes.items c.sort_and_find_repeat-has_alias.new.rows.items c.sort_and_find_repeat-has_alias.ensures.moved
    ∙ sym c.sort_and_find_repeat.ensures.repeats ∙ c.if-sort_and_find_repeat.false)
    (sym c.sort_and_find_repeat-has_alias.ensures.repeats ∙ c.if-has_alias.true)

pub invariant_of-result : goal.invariant_of-result
invariant_of-result c =
    is_sorted-rows c.sort_and_find_repeat-has_alias.new.rows.items c.sort_and_find_repeat.new.rows.items
    c.sort_and_find_repeat.ensures.moved c.sort_and_find_repeat.ensures.rises
    (sym c.sort_and_find_repeat.ensures.repeats ∙ c.if-sort_and_find_repeat.false)

pub returns : goal.returns
returns c =
    names_of-sorted c.args.prefixes.items c.sort_and_find_repeat.new.rows.items (arc_value c.args.table)
    (IsPermutation-trans _ _ _ c.sort_and_find_repeat-has_alias.ensures.moved c.sort_and_find_repeat.ensures.moved)
    (same_repeats Prefix c.args.prefixes.items c.sort_and_find_repeat-has_alias.new.rows.items c.sort_and_find_repeat-has_alias.ensures.moved
    ∙ sym c.sort_and_find_repeat.ensures.repeats ∙ c.if-sort_and_find_repeat.false)
    (sym c.sort_and_find_repeat-has_alias.ensures.repeats ∙ c.if-has_alias.false)
