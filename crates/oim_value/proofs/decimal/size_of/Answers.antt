use Rattle.std.proofs.Common.{sym, ◌∙◌}
use Rattle.oim_value.proofs.Sizes.{left_digits}
use Rattle.oim_value.proofs.decimal.size_of.Goals as goal

pub size_of_few-requires : goal.size_of_few-requires
size_of_few-requires c =
    rw (c.without_front.ensures, c.without_end.ensures)
    (left_digits c.around_point.result.0.now c.around_point.result.1.now
    (sym c.are_digits.ensures ∙ c.if-not-are_digits.false))
