use Rattle.std.proofs.Common.{ap, map}
use Rattle.sorted_pages.specs.Changes.{entry_of}
use Rattle.sorted_pages.proofs.Adjacent.{rising_more}
use Rattle.sorted_pages.proofs.entry.are_rising.Goals as goal

pub loop-change-preserved : goal.loop-change-preserved
loop-change-preserved g c =
    rising_more g.E.PageEntry.order g.met.E.PageEntry.is_total (map entry_of c.loop-change.left.now) (map entry_of c.in-Some.rest.now)
    (entry_of c.in-Some.change.now) c.goes_before.result _
    (ap (map entry_of) c.in-Some.ensures.cases.0) c.goes_before.ensures c.if-not-goes_before.false c.loop-change.invariant
