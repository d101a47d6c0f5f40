use Rattle.filing.proofs.HistoryRuns.{verdict_written}
use Rattle.filing.proofs.commands.check.check.Goals as goal

pub returns : goal.returns
returns g c =
    rw (c.into_inner.ensures, c.into_inner-2.ensures)
    (verdict_written _ _ _ _ _ _ _ _ _ c.new-source.ensures c.new-sink.ensures c.in_ok-verdict.ensures.judged c.in-Ok.ensures)
