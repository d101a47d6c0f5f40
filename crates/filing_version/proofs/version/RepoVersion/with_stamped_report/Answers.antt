use Rattle.std.proofs.Common.{◌≡◌, ◌∙◌, sym, subst}
use Rattle.std.specs.Prelude.{string_bytes}
use Rattle.filing_model.specs.Common.TextMap.{insert}
use Rattle.filing_version.specs.StampedReports.{StampedReports, mapped, stamped_report_of, version_of, IsStampedUpTo}
use Rattle.filing_version.proofs.StampedReports.{another_report, another_up_to}
use Rattle.filing_version.proofs.version.RepoVersion.with_stamped_report.Goals as goal

pub invariant_of-result : goal.invariant_of-result
invariant_of-result c =
    let before = c.args.self.now in
    let put : c.in_ok-reports.reports ≡ insert before.reports (string_bytes c.args.name) c.args.stamped =
    c.in_ok-reports.ensures ∙ (λ i. insert (c.self.view_is i).reports (string_bytes c.args.name) c.args.stamped) in
    subst (λ (v : StampedReports). IsStampedUpTo v.number (mapped stamped_report_of c.in_ok-reports.reports)) (sym c.self.view_is)
    (subst (λ m. IsStampedUpTo before.number (mapped stamped_report_of m)) (sym put)
    (another_up_to before (string_bytes c.args.name) c.requires.0 c.args.stamped c.requires.1
    (subst (λ (v : StampedReports). IsStampedUpTo v.number (mapped stamped_report_of v.reports)) c.self.view_is c.self.invariant)))

pub returns : goal.returns
returns c =
    let before = c.args.self.now in
    let put : c.in_ok-reports.reports ≡ insert before.reports (string_bytes c.args.name) c.args.stamped =
    c.in_ok-reports.ensures ∙ (λ i. insert (c.self.view_is i).reports (string_bytes c.args.name) c.args.stamped) in
    (λ i. version_of (c.self.view_is i).number (mapped stamped_report_of (put i)))
    ∙ another_report before (string_bytes c.args.name) c.requires.0 c.args.stamped c.requires.1
