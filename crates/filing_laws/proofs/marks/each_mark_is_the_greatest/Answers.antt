use Rattle.filing_laws.proofs.Stamping.MarkStamps.{each_mark_is_the_greatest}
use Rattle.filing_laws.proofs.marks.each_mark_is_the_greatest.Goals as goal

pub returns : goal.returns
returns c = each_mark_is_the_greatest
