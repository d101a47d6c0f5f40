use Rattle.std.proofs.Common.{◌≡◌, ◌++◌}
use Rattle.filing_stamps.proofs.kept_stamps.LayerKeptStamps.append_to.Given as goal

-- the stamps so far, and those still to come
abbrev pub invariant-loop-stamp : goal.invariant-loop-stamp
invariant-loop-stamp l = l.all.items ++ l.stamp-iterator ≡ l.initial.all.items ++ l.self
