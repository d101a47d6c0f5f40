use Rattle.std.proofs.Common.{◌≡◌, ◌++◌, string_bytes, drop}
use Rattle.std.specs.List.{flat_map}
use Rattle.report_inspection.specs.Lines.{fault_lines}
use Rattle.report_inspection.proofs.lines.push_faults.Given as goal

-- what is written and what is left to write are the whole
abbrev pub invariant-loop-fault : goal.invariant-loop-fault
invariant-loop-fault l =
    string_bytes l.out ++ flat_map (fault_lines l.file) (drop l.fault-index l.faults) ≡ string_bytes l.initial.out ++ flat_map (fault_lines l.file) l.faults
