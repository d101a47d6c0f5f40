use Rattle.std.proofs.Common.{◌≡◌, ◌++◌, take}
use Rattle.filing_stamps.proofs.kept_stamps.CommitStampsKeptStamps.append_to.Given as goal

abbrev pub invariant-loop-stamp : goal.invariant-loop-stamp
invariant-loop-stamp l = l.all.items ≡ l.initial.all.items ++ take l.stamp-index l.stamp-items
