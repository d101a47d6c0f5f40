use Rattle.std.proofs.Common.{◌≡◌, ℕ, drop}
use Rattle.oim_report.specs.Parts.{facts_view}
use Rattle.report_inspection.specs.Crowds.{is_twice}
use Rattle.report_inspection.proofs.CrowdedFacts.{told}
use Rattle.report_inspection.proofs.crowds.repeated_hashes.Given as goal

-- what was found, with what is left
abbrev pub invariant-loop-fact : goal.invariant-loop-fact
invariant-loop-fact l = (hash : ℕ) → told l.repeated.keys l.seen.keys hash (facts_view (drop l.fact-index l.facts)) ≡ is_twice (facts_view l.facts) hash
