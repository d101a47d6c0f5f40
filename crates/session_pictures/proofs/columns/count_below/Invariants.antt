use Rattle.std.proofs.Common.{◌≡◌, ◌+◌, ◌-◌, length, drop}
use Rattle.session_pictures.specs.Columns.{count_below}
use Rattle.session_pictures.proofs.columns.count_below.Given as goal

-- those below the number so far, and those still to come
abbrev pub invariant-loop-place : goal.invariant-loop-place
invariant-loop-place l = count_below l.number l.columns ≡ l.place + count_below l.number (drop l.place l.columns)

abbrev pub decreases-loop-place : goal.decreases-loop-place
decreases-loop-place l = length l.columns - l.place
