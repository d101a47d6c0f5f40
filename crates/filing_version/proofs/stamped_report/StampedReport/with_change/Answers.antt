use Rattle.std.proofs.Common.{◌≡◌, ◌∙◌, ap, sym}
use Rattle.std.specs.Arc.{arc_value}
use Rattle.filing_model.specs.Sessions.Changes.{declaring_if, changed}
use Rattle.filing_facts.specs.FactChanges.{with_changes}
use Rattle.filing_stamps.specs.Stamps.{stamp_in}
use Rattle.filing_version.specs.StampedReports.{StampedReportValue, stamped_report_of, without_facts}
use Rattle.filing_version.proofs.StampedReports.{changed_front}
use Rattle.filing_version.proofs.stamped_report.StampedReport.with_change.Goals as goal

pub returns : goal.returns
returns c =
    let inside = c.self.inside in
    let change = c.args.change.now in
    let header : without_facts (arc_value c.in_ok-header.header) ≡ without_facts (declaring_if change.declared (arc_value inside.header)) =
    c.in_ok-header.ensures ∙ ap (λ o. without_facts (declaring_if o (arc_value inside.header))) c.declared.ensures in
    let facts : c.in_ok-facts.facts ≡ with_changes change.facts.entries inside.facts =
    c.in_ok-facts.ensures ∙ (λ i. with_changes (c.facts.ensures i).entries (sym c.self.view_is i).report.facts) in
    let stamps : stamp_in c.in_ok-stamps.stamps ≡ stamp_in inside.stamps =
    c.in_ok-stamps.ensures ∙ (λ i. stamp_in (sym c.self.view_is i).stamps) in
    (λ i. record {
      report = ((λ j. record (header j) { facts = facts j }) ∙ changed_front change (arc_value inside.header) inside.facts) i;
      loaded = inside.loaded;
      declared = inside.declared;
      stamp = stamps i;
    })
    ∙ ap (λ (f : StampedReportValue). record (stamped_report_of f) { report = changed change f.report }) c.self.view_is
