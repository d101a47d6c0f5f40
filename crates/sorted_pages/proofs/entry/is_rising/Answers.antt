use Rattle.sorted_pages.proofs.Adjacent.{rising_more}
use Rattle.sorted_pages.proofs.entry.is_rising.Goals as goal

pub loop-entry-preserved : goal.loop-entry-preserved
loop-entry-preserved g c =
    rising_more g.E.PageEntry.order g.met.E.PageEntry.is_total c.loop-entry.left.now c.in-Some.rest.now c.in-Some.entry.now c.is_below_first.result _
    c.in-Some.ensures.cases.0 c.is_below_first.ensures c.if-not-is_below_first.false c.loop-entry.invariant
