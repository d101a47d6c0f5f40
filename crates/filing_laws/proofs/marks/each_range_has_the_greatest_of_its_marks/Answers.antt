use Rattle.filing_laws.proofs.Stamping.MarkStamps.{each_range_has_the_greatest_of_its_marks}
use Rattle.filing_laws.proofs.marks.each_range_has_the_greatest_of_its_marks.Goals as goal

pub returns : goal.returns
returns c = each_range_has_the_greatest_of_its_marks
