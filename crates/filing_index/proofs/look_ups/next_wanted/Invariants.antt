use Rattle.std.proofs.Common.{◌≡◌, length}
use Rattle.filing_index.specs.Found.{passing}
use Rattle.filing_index.specs.Wanted.{is_wanted}
use Rattle.filing_index.proofs.look_ups.next_wanted.Given as goal

-- what was passed over is not looked for
abbrev pub invariant-loop-entry : goal.invariant-loop-entry
invariant-loop-entry l = passing (is_wanted l.wanted) l.entries ≡ passing (is_wanted l.wanted) l.fn.entries

abbrev pub decreases-loop-entry : goal.decreases-loop-entry
decreases-loop-entry l = length l.entries
