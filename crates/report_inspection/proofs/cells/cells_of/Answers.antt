use Rattle.std.proofs.lemmas.Result.{IfOk-weaker}
use Rattle.oim_report.specs.Parts.{facts_view}
use Rattle.report_inspection.specs.Cells.{AreCells}
use Rattle.report_inspection.proofs.CrowdedFacts.{cells_of_kept}
use Rattle.report_inspection.proofs.cells.cells_of.Goals as goal

pub returns : goal.returns
returns c =
    IfOk-weaker c.cells_in.result (λ v. AreCells c.args.allowed (facts_view c.in_ok-facts.facts.items) v.items)
    (λ v. AreCells c.args.allowed (facts_view c.args.facts.items) v.items)
    (λ v told. cells_of_kept c.args.allowed (facts_view c.args.facts.items) (facts_view c.in_ok-facts.facts.items) v.items c.in_ok-facts.ensures told)
    c.cells_in.ensures
