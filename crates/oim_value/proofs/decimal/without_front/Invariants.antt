use Rattle.std.proofs.Common.{◌≡◌, length}
use Rattle.filing_model.specs.Oim.Numerals.{without_front}
use Rattle.oim_value.specs.Padding.{is_padding}
use Rattle.oim_value.proofs.decimal.without_front.Given as goal

abbrev pub invariant-loop-left : goal.invariant-loop-left
invariant-loop-left l = without_front (is_padding l.padding) l.left ≡ without_front (is_padding l.padding) l.text

abbrev pub decreases-loop-left : goal.decreases-loop-left
decreases-loop-left l = length l.left
