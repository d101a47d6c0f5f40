use Rattle.std.proofs.Common.{◌≡◌, ◌∙◌, ap, sym, cond, is_some, ℕ, Option}
use Rattle.std.specs.Arc.{arc_value}
use Rattle.filing_model.specs.Sessions.Changes.{declaring_if}
use Rattle.filing_model.specs.declared.duplicates.Allowed.{Allowed}
use Rattle.filing_facts.specs.FactChanges.{fact_changes_of, stamped_by, with_changes}
use Rattle.filing_stamps.specs.Stamps.{stamp_in}
use Rattle.filing_version.specs.StampedReports.{StampedReportValue, stamped_report_of, changed_stamped_report, without_facts}
use Rattle.filing_version.proofs.StampedReports.{changed_front}
use Rattle.filing_version.proofs.stamped_report.StampedReport.after.Goals as goal
use Rattle.filing_version.proofs.stamped_report.StampedReport.after.Goals.{in-Some, in-None}

pub returns : goal.returns
returns c =
    let number = c.args.number in
    let inside = c.self.inside in
    let change = c.args.change.now in
    let stamped : Option Allowed → ℕ = λ o. cond (is_some o) number inside.declared in
    let header : without_facts (arc_value c.in_ok-header.header) ≡ without_facts (declaring_if change.declared (arc_value inside.header)) =
    c.in_ok-header.ensures ∙ ap (λ o. without_facts (declaring_if o (arc_value inside.header))) c.declared-2.ensures in
    let facts : c.in_ok-facts.facts ≡ with_changes change.facts.entries inside.facts =
    c.in_ok-facts.ensures.facts ∙ (λ i. with_changes (c.facts.ensures i).entries (sym c.self.view_is i).report.facts) in
    let stamps : stamp_in c.in_ok-facts.stamps ≡ stamped_by (fact_changes_of change.facts.entries inside.facts) number (stamp_in inside.stamps) =
    c.in_ok-facts.ensures.stamps ∙ (λ i. stamped_by (fact_changes_of (c.facts.ensures i).entries (sym c.self.view_is i).report.facts) number
    (stamp_in (sym c.self.view_is i).stamps)) in
    let declared : c.match-declared.declared ≡ stamped change.declared =
    elim c.match-declared.branch [
      | in-Some w ↦ w.declared-is ∙ ap stamped (sym w.in-Some.is ∙ c.declared.ensures)
      | in-None w ↦ w.declared-is ∙ ap stamped (sym w.in-None.is ∙ c.declared.ensures)
    ] in
    (λ i. record {
      report = ((λ j. record (header j) { facts = facts j }) ∙ changed_front change (arc_value inside.header) inside.facts) i;
      loaded = inside.loaded;
      declared = declared i;
      stamp = stamps i;
    })
    ∙ ap (λ (f : StampedReportValue). changed_stamped_report number change (stamped_report_of f)) c.self.view_is
