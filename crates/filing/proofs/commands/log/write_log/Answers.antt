use Rattle.std.proofs.Common.{map}
use Rattle.history_views.specs.LogKept.{line_in}
use Rattle.session_pictures.specs.Told.{told_in}
use Rattle.filing.proofs.HistoryRuns.{log_shown}
use Rattle.filing.proofs.commands.log.write_log.Goals as goal

pub returns-in_ok-written-in-Lawful : goal.returns-in_ok-written-in-Lawful
returns-in_ok-written-in-Lawful g c =
    rw (c.into_inner.ensures, c.into_inner-in-Lawful.ensures)
    (log_shown _ _ _ _ _ _ _ _ c.new-source.ensures c.new-sink.ensures c.args.batches (map told_in c.in_ok-found.found.sessions.items)
    (map line_in c.in_ok-found.found.lines.items) (c.in_ok-found.ensures.found c.in-Lawful.is) c.in_ok-written-in-Lawful.ensures)
