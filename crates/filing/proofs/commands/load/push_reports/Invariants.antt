use Rattle.std.proofs.Common.{◌≡◌, ◌++◌, string_bytes, drop}
use Rattle.filing.specs.Loads.{load_script}
use Rattle.filing.proofs.commands.load.push_reports.Given as goal

-- what is written and what is left to write are the whole
abbrev pub invariant-loop-report : goal.invariant-loop-report
invariant-loop-report l =
    string_bytes l.out ++ load_script (drop l.report-index l.reports) ≡ string_bytes l.initial.out ++ load_script l.reports
