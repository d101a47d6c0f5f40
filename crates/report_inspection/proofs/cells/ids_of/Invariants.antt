use Rattle.std.proofs.Common.{◌≡◌, map, string_bytes, take}
use Rattle.oim_report.specs.Parts.{facts_view}
use Rattle.report_inspection.proofs.cells.ids_of.Given as goal

abbrev pub invariant-loop-fact : goal.invariant-loop-fact
invariant-loop-fact l = map string_bytes l.ids.items ≡ map (λ e. e.0) (facts_view (take l.fact-index l.run))
