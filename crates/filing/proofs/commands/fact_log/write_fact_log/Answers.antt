use Rattle.std.proofs.Common.{string_bytes}
use Rattle.history_views.specs.FactLog.{fact_log_of}
use Rattle.filing.proofs.HistoryRuns.{text_shown}
use Rattle.filing.proofs.commands.fact_log.write_fact_log.Goals as goal

pub returns-in_ok-written-in-Lawful : goal.returns-in_ok-written-in-Lawful
returns-in_ok-written-in-Lawful g c =
    rw (c.into_inner.ensures, c.into_inner-in-Lawful.ensures)
    (text_shown _ _ _ _ _ _ _ _ c.new-source.ensures c.new-sink.ensures (fact_log_of c.args.batches c.args.report.now c.args.id.now)
    (string_bytes c.in_ok-found.found.text) (c.in_ok-found.ensures.found c.in-Lawful.is) c.in_ok-written-in-Lawful.ensures)
