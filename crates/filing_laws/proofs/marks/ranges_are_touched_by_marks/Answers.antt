use Rattle.filing_laws.proofs.Stamping.TouchedRanges.{ranges_are_touched_by_marks}
use Rattle.filing_laws.proofs.marks.ranges_are_touched_by_marks.Goals as goal

pub returns : goal.returns
returns c = ranges_are_touched_by_marks
