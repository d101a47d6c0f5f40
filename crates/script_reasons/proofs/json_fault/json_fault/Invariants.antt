use Rattle.std.proofs.Common.{length}
use Rattle.script_reasons.proofs.json_fault.json_fault.Given as goal

-- the tokens that are left
abbrev pub decreases-loop-token : goal.decreases-loop-token
decreases-loop-token l = length l.reader
