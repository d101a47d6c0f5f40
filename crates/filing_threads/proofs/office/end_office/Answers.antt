use Rattle.std.proofs.Common.{reverse}
use Rattle.filing_threads.proofs.CountedDesks.{ended_so}
use Rattle.filing_threads.proofs.office.end_office.Goals as goal

pub returns : goal.returns
returns g c =
    ended_so c.require_beginning.result c.in-Ok.core c.args.desks.items (reverse c.args.first.now) c.require_beginning.ensures.same
    c.require_beginning.ensures.goes
    c.in-Ok.ensures.counted c.in-Ok.ensures.numbered
