use Rattle.std.proofs.Common.{◌≡◌, ◌+◌, ◌++◌, drop, length, map}
use Rattle.session_pictures.specs.Picture.{rows_of}
use Rattle.session_pictures.specs.Told.{told_in}
use Rattle.session_pictures.proofs.picture.rows_of.Given as goal

-- the rows so far, with those still to come
abbrev pub invariant-loop-session : goal.invariant-loop-session
invariant-loop-session l =
    record {
      numbered : l.number ≡ l.first + l.session-index;
      made : l.rows.items ++ rows_of l.first l.many l.versions l.number (map told_in (drop l.session-index l.sessions))
          ≡ rows_of l.first (length l.sessions) l.versions l.first (map told_in l.sessions);
    }
