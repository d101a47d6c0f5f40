use Rattle.std.proofs.Common.{◌≡◌, ◌∙◌, ap, sym, subst, ◌+◌, [], ◌∷◌, List}
use Rattle.filing_model.specs.Common.Text.{Text}
use Rattle.filing_model.specs.Sessions.Changes.{ReportChange}
use Rattle.filing_version.specs.StampedReports.{StampedReports, mapped, stamped_report_of, stamped_reports_after, version_of, ChangesWhatIsThere, IsStampedUpTo}
use Rattle.filing_version.proofs.NextVersions.{version_after_change}
use Rattle.filing_version.proofs.StampedReports.{LaysTheRest, lays_next, absent_seen}
use Rattle.filing_version.proofs.version.RepoVersion.after.Goals as goal

pub into_stamped_part-requires : goal.into_stamped_part-requires
into_stamped_part-requires c =
    subst (λ (v : StampedReports). IsStampedUpTo (v.number + 1) (mapped stamped_report_of c.loop-part.reports)) (sym c.self.view_is)
    (record { up_to = c.loop-part.invariant.up_to })

pub loop-part-preserved : goal.loop-part-preserved
loop-part-preserved c =
    let number = c.args.self.now.number + 1 in
    let all = c.args.change.now.entries in
    let first = mapped stamped_report_of c.args.self.now.reports in
    let m = mapped stamped_report_of c.loop-part.reports in
    let part = c.in-Some.part.now in
    let rest : List (Text × ReportChange) = c.next.new.self in
    let steps : c.loop-part.part-iterator ≡ part ∷ rest = c.in-Some.ensures.steps in
    lays_next number all first part rest m (mapped stamped_report_of c.in_ok-reports-2.reports)
    (c.in_ok-reports-2.ensures ∙ ap (λ (v : StampedReports). stamped_reports_after (v.number + 1) (part ∷ []) m) c.self.view_is)
    (subst (λ ps. LaysTheRest number all first ps m) steps c.loop-part.invariant)

pub returns : goal.returns
returns c =
    let before = c.args.self.now in
    let number = before.number + 1 in
    let change = c.args.change.now in
    let m = mapped stamped_report_of c.loop-part.reports in
    let there : ChangesWhatIsThere change (mapped stamped_report_of before.reports) = λ name none. c.requires.there name (absent_seen before name none) in
    let steps : c.loop-part.part-iterator ≡ [] = c.in-None.ensures.steps.0 in
    let all : m ≡ stamped_reports_after number change.entries (mapped stamped_report_of before.reports) =
    ap (λ ps. stamped_reports_after number ps m) (sym steps) ∙ c.loop-part.invariant.same in
    (λ i. version_of ((c.self.view_is i).number + 1) (all i))
    ∙ version_after_change before.number change (mapped stamped_report_of before.reports) there
