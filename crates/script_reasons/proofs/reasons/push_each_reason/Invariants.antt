use Rattle.std.proofs.Common.{◌≡◌, ◌++◌, string_bytes, drop}
use Rattle.script_reasons.specs.ReasonText.{each_reason_text}
use Rattle.script_reasons.proofs.reasons.push_each_reason.Given as goal

-- what is written and what is left to write are the whole
abbrev pub invariant-loop-reason : goal.invariant-loop-reason
invariant-loop-reason l =
    string_bytes l.out ++ each_reason_text l.number l.column (drop l.reason-index l.reasons)
    ≡ string_bytes l.initial.out ++ each_reason_text l.number l.column l.reasons
