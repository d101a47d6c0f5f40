use Rattle.std.proofs.Common.{◌≡◌, take}
use Rattle.oim_report.specs.Parts.{facts_view}
use Rattle.oim_report.proofs.report.clone_facts.Given as goal

-- so many facts are copied
abbrev pub invariant-loop-id : goal.invariant-loop-id
invariant-loop-id l = facts_view l.copies.items ≡ facts_view (take l.id-index l.id-items)
