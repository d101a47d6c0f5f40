use Rattle.history_views.specs.Versions.{version_kept}
use Rattle.filing.proofs.HistoryRuns.{report_shown_of}
use Rattle.filing.proofs.commands.show.write_report.Goals as goal

pub returns-in_ok-shown-in-Lawful : goal.returns-in_ok-shown-in-Lawful
returns-in_ok-shown-in-Lawful g c =
    rw (c.into_inner.ensures, c.into_inner-in-Lawful.ensures)
    (report_shown_of _ c.in_ok-shown-in-Lawful.shown _ _ _ _ _ _ _ c.new-source.ensures c.new-sink.ensures c.args.number c.args.name.now
    (version_kept c.in_ok-found.found.version) (c.in_ok-found.ensures.found c.in-Lawful.is) c.in_ok-shown-in-Lawful.ensures)
