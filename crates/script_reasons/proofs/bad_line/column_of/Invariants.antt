use Rattle.std.proofs.Common.{◌+◌, ◌<◌, ◌≤◌}
use Rattle.script_reasons.proofs.bad_line.column_of.Given as goal

-- the characters so far are no more than the bytes
abbrev pub invariant-loop-byte : goal.invariant-loop-byte
invariant-loop-byte l = (0 < l.column) × (l.column ≤ l.byte-index + 1)
