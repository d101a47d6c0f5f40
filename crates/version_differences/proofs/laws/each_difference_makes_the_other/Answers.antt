use Rattle.version_differences.proofs.LaidLines.{each_difference_makes_the_other}
use Rattle.version_differences.proofs.laws.each_difference_makes_the_other.Goals as goal

pub returns : goal.returns
returns c = each_difference_makes_the_other
