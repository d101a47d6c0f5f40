use Rattle.std.proofs.Common.{◌∙◌, ap, map}
use Rattle.std.specs.Arc.{arc_value}
use Rattle.filing_model.specs.Oim.Duplicates.{class_of}
use Rattle.oim_report.specs.Parts.{fact_view, facts_view}
use Rattle.report_inspection.specs.Runs.{dims_in}
use Rattle.report_inspection.proofs.CellRuns.{told_cell}
use Rattle.report_inspection.proofs.cells.cell_of.Goals as goal

pub returns : goal.returns
returns c =
    told_cell c.args.allowed (dims_in (fact_view c.args.first.now)) _ _ _ _ (facts_view c.args.run.now) c.requires
    (ap (λ f. f.dims) c.in_ok-clone.ensures.cases)
    (c.class_of-class.ensures ∙ ap (λ xs. class_of (map arc_value xs)) c.deref.ensures.value ∙ ap class_of c.in_ok-other_owners.ensures)
    c.in_ok-ids.ensures
    c.allows.ensures
