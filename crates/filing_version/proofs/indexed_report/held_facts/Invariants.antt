use Rattle.std.proofs.Common.{◌≡◌, take}
use Rattle.oim_report.specs.Parts.{facts_view}
use Rattle.filing_version.proofs.indexed_report.held_facts.Given as goal

-- so many facts are copied
abbrev pub invariant-loop-id : goal.invariant-loop-id
invariant-loop-id l = l.held.items ≡ facts_view (take l.id-index l.facts)
