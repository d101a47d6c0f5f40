use Rattle.filing_laws.proofs.Stamping.Stamps.{each_touch_is_the_greatest}
use Rattle.filing_laws.proofs.numbers.each_touch_is_the_greatest.Goals as goal

pub returns : goal.returns
returns c = each_touch_is_the_greatest
