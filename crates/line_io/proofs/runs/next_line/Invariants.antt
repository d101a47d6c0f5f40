use Rattle.std.proofs.Common.{◌≡◌, ◌≤◌, length}
use Rattle.line_io.specs.Lines.{lines_of, spoken}
use Rattle.line_io.proofs.runs.next_line.Given as goal

-- what is left has all lines that are not blank
abbrev pub invariant-loop-line : goal.invariant-loop-line
invariant-loop-line l =
    (spoken (lines_of l.fn.text) ≡ spoken (lines_of l.rest)) × (length l.rest ≤ length l.fn.text)

abbrev pub decreases-loop-line : goal.decreases-loop-line
decreases-loop-line l = length l.rest
