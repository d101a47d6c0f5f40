use Rattle.std.proofs.Common.{◌∙◌, ap, sym}
use Rattle.filing_model.specs.Oim.Reports.{Report}
use Rattle.filing_model.specs.Common.TextMap.{from_entries}
use Rattle.filing_model.proofs.Common.TextMaps.{from_entries-entries}
use Rattle.filing_version.specs.StampedReports.{StampedReportValue}
use Rattle.filing_version.proofs.stamped_report.StampedReport.report.Goals as goal

pub returns : goal.returns
returns c =
    let facts = c.self.inside.facts in
    let info = c.in_ok-info.ensures.ok ∙ c.info.ensures.info ∙ ap (λ (r : Report). r.info) c.deref-2.ensures in
    let names = c.in_ok-names.ensures.cases ∙ c.names.ensures ∙ ap (λ (r : Report). r.names) c.deref.ensures in
    let allowed = c.allowed.ensures ∙ ap (λ (r : Report). r.allowed) c.deref-3.ensures in
    let all = ap from_entries (c.in_ok-facts.ensures ∙ ap (λ (f : StampedReportValue). f.report.facts.entries) (sym c.self.view_is))
    ∙ from_entries-entries facts in
    c.of.ensures
    ∙ (λ i. record { info = info i; names = names i; allowed = allowed i; facts = all i })
    ∙ ap (λ (f : StampedReportValue). f.report) c.self.view_is
