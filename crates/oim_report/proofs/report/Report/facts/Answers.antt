use Rattle.std.proofs.Common.{◌∙◌, sym, ap}
use Rattle.filing_model.proofs.Common.MapsOfLists.{from_entries-sorted}
use Rattle.oim_report.specs.Parts.{facts_view}
use Rattle.oim_report.proofs.report.Report.facts.Goals as goal

pub returns : goal.returns
returns c =
    ap facts_view c.deref.ensures.value
    ∙ sym (from_entries-sorted (facts_view c.self.inside.facts.items) c.self.invariant.rise)
    ∙ ap (λ r. r.facts.entries) c.self.view_is
