use Rattle.std.proofs.Common.{◌≡◌, ◌++◌, string_bytes, drop, map, option_map}
use Rattle.std.specs.List.{flat_map}
use Rattle.report_inspection.specs.Lines.{reason_line}
use Rattle.report_inspection.proofs.lines.push_reasons.Given as goal

-- what is written and what is left to write are the whole
abbrev pub invariant-loop-reason : goal.invariant-loop-reason
invariant-loop-reason l =
    string_bytes l.out ++ flat_map (reason_line l.file (option_map (λ t. t.now) l.id) l.word) (map string_bytes (drop l.reason-index l.reasons))
    ≡ string_bytes l.initial.out ++ flat_map (reason_line l.file (option_map (λ t. t.now) l.id) l.word) (map string_bytes l.reasons)
