use Rattle.std.proofs.Common.{◌≡◌, ◌++◌}
use Rattle.oim_report.specs.Parts.{facts_view}
use Rattle.filing_version.proofs.stamped_report.StampedReport.shared_facts.Given as goal

-- the facts so far, and those still to come
abbrev pub invariant-loop-entry : goal.invariant-loop-entry
invariant-loop-entry l = facts_view l.facts.items ++ l.entry-iterator ≡ l.self.report.facts.entries
