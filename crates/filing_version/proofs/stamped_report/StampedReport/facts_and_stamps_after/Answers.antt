use Rattle.std.proofs.Common.{◌∙◌, ap, sym, subst, List}
use Rattle.std.specs.Prelude.{◌≤◌}
use Rattle.filing_facts.specs.FactChanges.{FactChange, fact_changes_of, stamped_by}
use Rattle.filing_stamps.specs.Stamps.{stamp_in}
use Rattle.filing_version.specs.StampedReports.{StampedReportValue}
use Rattle.filing_version.proofs.StampedReports.{stamped_by-fact_changes_in}
use Rattle.filing_version.proofs.stamped_report.StampedReport.facts_and_stamps_after.Goals as goal

pub after-requires-2 : goal.after-requires-2
after-requires-2 c = (c.args.puts.now, c.deref-2.ensures.value ∙ c.in_ok-fact_changes.ensures)

pub after-requires : goal.after-requires
after-requires c = λ part. subst (λ (f : StampedReportValue). stamp_in f.stamps part ≤ c.args.number) (sym c.self.view_is) (c.requires part)

pub returns-clause-stamps : goal.returns-clause-stamps
returns-clause-stamps c =
    let changes = c.args.puts.now.entries in
    c.in_ok-stamps.ensures
    ∙ ap (λ (ms : List FactChange). stamped_by ms c.args.number (stamp_in c.self.inside.stamps)) (c.deref.ensures.value ∙ c.in_ok-fact_changes.ensures)
    ∙ stamped_by-fact_changes_in changes c.self.inside.facts c.args.number (stamp_in c.self.inside.stamps)
    ∙ ap (λ (f : StampedReportValue). stamped_by (fact_changes_of changes f.report.facts) c.args.number (stamp_in f.stamps)) c.self.view_is
