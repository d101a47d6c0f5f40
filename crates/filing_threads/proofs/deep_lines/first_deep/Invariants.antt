use Rattle.std.proofs.Common.{◌≡◌, drop}
use Rattle.filing_threads.specs.DeepLines.{deep_from}
use Rattle.filing_threads.proofs.deep_lines.first_deep.Given as goal

-- no script before ended so
abbrev pub invariant-loop-script : goal.invariant-loop-script
invariant-loop-script l = deep_from 0 l.all_replies ≡ deep_from l.script (drop l.script l.all_replies)
