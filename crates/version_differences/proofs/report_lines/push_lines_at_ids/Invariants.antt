use Rattle.std.proofs.Common.{◌≡◌, ◌++◌, map, string_bytes}
use Rattle.std.specs.List.{flat_map}
use Rattle.filing_model.specs.Common.TextMap.{keys}
use Rattle.filing_version.specs.StampedReports.{repository_in}
use Rattle.version_differences.specs.Differences.{lines_at_id}
use Rattle.version_differences.specs.LineText.{lines_text}
use Rattle.version_differences.proofs.report_lines.push_lines_at_ids.Given as goal

-- the lines so far, and those of the identifiers still to come
abbrev pub invariant-loop-entry : goal.invariant-loop-entry
invariant-loop-entry l =
    string_bytes l.out ++ lines_text (flat_map (lines_at_id (repository_in l.from) (repository_in l.to) l.name) (map (λ e. e.0) l.entry-iterator))
    ≡ string_bytes l.initial.out ++ lines_text (flat_map (lines_at_id (repository_in l.from) (repository_in l.to) l.name) (keys l.ids))
