use Rattle.std.proofs.Common.{◌∙◌, ap, sym, rules}
use Rattle.std.specs.List.{insert}
use Rattle.session_pictures.specs.Columns.{count_below, is_at}
use Rattle.session_pictures.proofs.Places.{below_within, with_absent, with_present}
use Rattle.session_pictures.proofs.columns.add_number.Goals as goal

pub insert-requires : goal.insert-requires
insert-requires c = let within = below_within c.args.number c.args.columns.now.items in search rules

pub returns-then-is_at : goal.returns-then-is_at
returns-then-is_at c =
    let place = c.count_below-place.ensures ∙ ap (count_below c.args.number) c.deref.ensures.value in
    with_present c.args.number c.args.columns.now.items
    (sym ((λ i. is_at c.args.number (place i) (c.deref-2.ensures.value i))) ∙ sym c.is_at.ensures ∙ c.if-is_at.true)

pub returns : goal.returns
returns c =
    let place = c.count_below-place.ensures ∙ ap (count_below c.args.number) c.deref.ensures.value in
    c.in_ok-insert.ensures.items ∙ ap (λ k. insert c.args.columns.now.items k c.args.number) place
    ∙ with_absent c.args.number c.args.columns.now.items
    (sym ((λ i. is_at c.args.number (place i) (c.deref-2.ensures.value i))) ∙ sym c.is_at.ensures ∙ c.if-is_at.false)
