use Rattle.std.proofs.Common.{◌≡◌, map, drop}
use Rattle.std.specs.List.{flat_map}
use Rattle.session_pictures.specs.Columns.{columns, versions_of, with_numbers}
use Rattle.session_pictures.specs.Told.{told_in}
use Rattle.session_pictures.proofs.columns.columns_of.Given as goal

-- the versions so far, with those still to come
abbrev pub invariant-loop-session : goal.invariant-loop-session
invariant-loop-session l =
    with_numbers (flat_map versions_of (map told_in (drop l.session-index l.sessions))) l.columns.items ≡ columns (map told_in l.sessions)
