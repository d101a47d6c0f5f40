use Rattle.std.proofs.Common.{◌≡◌, vec_len}
use Rattle.filing.proofs.runs.threads.files_at.Given as goal

abbrev pub invariant-loop-path : goal.invariant-loop-path
invariant-loop-path g l = vec_len l.files ≡ l.path-index
