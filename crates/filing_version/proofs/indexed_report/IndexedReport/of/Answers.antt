use Rattle.std.proofs.Common.{◌≡◌, ◌∙◌, ap, sym}
use Rattle.std.specs.Arc.{arc_value}
use Rattle.filing_model.specs.Oim.Reports.{Report}
use Rattle.filing_model.specs.Common.TextMap.{from_entries}
use Rattle.filing_model.proofs.Common.TextMaps.{from_entries-entries}
use Rattle.filing_version.specs.StampedReports.{without_facts}
use Rattle.filing_version.proofs.indexed_report.IndexedReport.of.Goals as goal

pub invariant_of-result : goal.invariant_of-result
invariant_of-result c =
    let report = arc_value c.args.report in
    let header : arc_value c.in_ok-header.header ≡ without_facts report =
    c.in_ok-header.ensures.ok ∙ c.in_ok-copy.ensures ∙ ap without_facts c.deref.ensures in
    let facts : c.in_ok-facts.facts ≡ report.facts =
    sym (from_entries-entries c.in_ok-facts.facts)
    ∙ ap from_entries (c.in_ok-facts.ensures ∙ ap (λ (r : Report). r.facts.entries) c.deref-2.ensures)
    ∙ from_entries-entries report.facts in
    (header, facts)
