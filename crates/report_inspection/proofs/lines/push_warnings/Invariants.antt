use Rattle.std.proofs.Common.{◌≡◌, ◌++◌, string_bytes, drop}
use Rattle.std.specs.List.{flat_map}
use Rattle.report_inspection.specs.Lines.{warning_line}
use Rattle.report_inspection.proofs.lines.push_warnings.Given as goal

-- what is written and what is left to write are the whole
abbrev pub invariant-loop-warning : goal.invariant-loop-warning
invariant-loop-warning l =
    string_bytes l.out ++ flat_map (warning_line l.file) (drop l.warning-index l.warnings)
    ≡ string_bytes l.initial.out ++ flat_map (warning_line l.file) l.warnings
