use Rattle.std.proofs.Common.{option_map, string_bytes}
use Rattle.history_views.specs.Differing.{difference_asked}
use Rattle.filing.proofs.HistoryRuns.{found_shown}
use Rattle.filing.proofs.commands.diff.write_difference.Goals as goal

pub returns-in_ok-shown-in-Lawful : goal.returns-in_ok-shown-in-Lawful
returns-in_ok-shown-in-Lawful g c =
    let found = c.in_ok-found.ensures.found c.in-Lawful.is in
    rw (c.into_inner.ensures, c.into_inner-in-Lawful.ensures)
    (found_shown _ c.in_ok-shown-in-Lawful.shown _ _ _ _ _ _ _ c.new-source.ensures c.new-sink.ensures
    (difference_asked c.args.from c.args.to (option_map (λ t. t.now) c.args.report))
    (option_map (option_map string_bytes) c.in_ok-found.found.text) (found.0, (found.1.0, found.1.3)) c.in_ok-shown-in-Lawful.ensures)
