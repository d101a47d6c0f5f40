use Rattle.std.proofs.Common.{◌≡◌, ◌++◌}
use Rattle.oim_report.specs.Parts.{facts_view}
use Rattle.report_inspection.specs.Crowds.{with_hashes}
use Rattle.report_inspection.proofs.crowds.with_hashes.Given as goal

-- what was kept, with what is left to keep
abbrev pub invariant-loop-fact : goal.invariant-loop-fact
invariant-loop-fact l =
    facts_view l.kept.items ++ with_hashes l.hashes.keys (facts_view l.fact-iterator.rest.items)
    ≡ with_hashes l.hashes.keys (facts_view l.initial.fact-iterator.rest.items)
