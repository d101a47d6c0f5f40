use Rattle.std.proofs.Common.{◌≡◌, map, take}
use Rattle.std.specs.Arc.{arc_value}
use Rattle.filing_model.specs.Oim.Duplicates.{facts_of}
use Rattle.oim_report.specs.Parts.{facts_view}
use Rattle.report_inspection.proofs.cells.other_owners.Given as goal

abbrev pub invariant-loop-fact : goal.invariant-loop-fact
invariant-loop-fact l = map arc_value l.facts.items ≡ facts_of (facts_view (take l.fact-index l.run))
