use Rattle.std.proofs.Common.{option_map, string_bytes}
use Rattle.filing.proofs.HistoryRuns.{list_shown}
use Rattle.filing.proofs.commands.show.write_listing.Goals as goal

pub returns-in_ok-shown-in-Lawful : goal.returns-in_ok-shown-in-Lawful
returns-in_ok-shown-in-Lawful g c =
    rw (c.into_inner.ensures, c.into_inner-in-Lawful.ensures)
    (list_shown _ c.in_ok-shown-in-Lawful.shown _ _ _ _ _ _ _ c.new-source.ensures c.new-sink.ensures c.args.number
    (option_map string_bytes c.in_ok-found.found.text) (c.in_ok-found.ensures.found c.in-Lawful.is) c.in_ok-shown-in-Lawful.ensures)
