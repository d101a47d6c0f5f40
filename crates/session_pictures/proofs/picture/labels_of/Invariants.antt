use Rattle.std.proofs.Common.{◌≡◌, ◌++◌, drop, map}
use Rattle.session_pictures.specs.Picture.{label_in, label_of}
use Rattle.session_pictures.specs.Told.{told_in}
use Rattle.session_pictures.proofs.picture.labels_of.Given as goal

-- the labels so far, with those still to come
abbrev pub invariant-loop-session : goal.invariant-loop-session
invariant-loop-session l =
    map label_in l.labels.items ++ map label_of (map told_in (drop l.session-index l.sessions)) ≡ map label_of (map told_in l.sessions)
