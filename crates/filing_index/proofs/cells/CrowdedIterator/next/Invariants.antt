use Rattle.std.proofs.Common.{◌≡◌, option_map, suc, length, cond, is_some}
use Rattle.filing_index.specs.Cells.{crowded_from}
use Rattle.filing_index.proofs.cells.CrowdedIterator.next.Given as goal

-- what was passed over stood before no other of its hash
abbrev pub invariant-loop-self : goal.invariant-loop-self
invariant-loop-self l = crowded_from (option_map (λ e. e.now) l.self-inside.here) l.self-inside.ahead ≡ l.fn.self

abbrev pub decreases-loop-self : goal.decreases-loop-self
decreases-loop-self l = cond (is_some l.self-inside.here) (suc (length l.self-inside.ahead)) 0
