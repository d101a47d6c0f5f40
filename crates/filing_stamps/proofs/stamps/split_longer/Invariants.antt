use Rattle.std.proofs.Common.{◌≤◌, length}
use Rattle.filing_stamps.proofs.stamps.split_longer.Given as goal

abbrev pub decreases-loop-last : goal.decreases-loop-last
decreases-loop-last l = length l.longer

abbrev pub invariant-loop-last : goal.invariant-loop-last
invariant-loop-last l = length l.longer ≤ length l.layers
