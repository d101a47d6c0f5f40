use Rattle.std.proofs.Common.{◌≡◌, ◌∙◌, ap, sym, subst, ◌+◌}
use Rattle.std.specs.Prelude.{string_bytes}
use Rattle.filing_model.specs.Common.TextMap.{insert}
use Rattle.filing_version.specs.StampedReports.{StampedReports, mapped, stamped_report_of, new_stamped_report, version_of, IsStampedUpTo}
use Rattle.filing_version.proofs.NextVersions.{version_with_report, with_is_stamped_up_to}
use Rattle.filing_version.proofs.StampedReports.{absent_held, mapped-insert}
use Rattle.filing_version.proofs.version.RepoVersion.with_indexed_report.Goals as goal

pub invariant_of-result : goal.invariant_of-result
invariant_of-result c =
    let before = c.args.self.now in
    let name = string_bytes c.args.name in
    let report = c.args.report in
    let number = before.number + 1 in
    let made : stamped_report_of c.new-stamped.result ≡ new_stamped_report number report =
    c.new-stamped.ensures ∙ (λ i. new_stamped_report ((c.self.view_is i).number + 1) report) in
    let put : mapped stamped_report_of c.in_ok-reports.reports ≡ insert (mapped stamped_report_of before.reports) name (new_stamped_report number report) =
    ap (mapped stamped_report_of) (c.in_ok-reports.ensures ∙ (λ i. insert (c.self.view_is i).reports name c.new-stamped.result))
    ∙ mapped-insert before.reports name c.new-stamped.result
    ∙ ap (insert (mapped stamped_report_of before.reports) name) made in
    subst (λ (v : StampedReports). IsStampedUpTo (v.number + 1) (mapped stamped_report_of c.in_ok-reports.reports)) (sym c.self.view_is)
    (subst (IsStampedUpTo number) (sym put)
    (with_is_stamped_up_to before.number name report (mapped stamped_report_of before.reports) (absent_held before name c.requires.new)
    (subst (λ (v : StampedReports). IsStampedUpTo v.number (mapped stamped_report_of v.reports)) c.self.view_is c.self.invariant)))

pub returns : goal.returns
returns c =
    let before = c.args.self.now in
    let name = string_bytes c.args.name in
    let report = c.args.report in
    let number = before.number + 1 in
    let made : stamped_report_of c.new-stamped.result ≡ new_stamped_report number report =
    c.new-stamped.ensures ∙ (λ i. new_stamped_report ((c.self.view_is i).number + 1) report) in
    let put : mapped stamped_report_of c.in_ok-reports.reports ≡ insert (mapped stamped_report_of before.reports) name (new_stamped_report number report) =
    ap (mapped stamped_report_of) (c.in_ok-reports.ensures ∙ (λ i. insert (c.self.view_is i).reports name c.new-stamped.result))
    ∙ mapped-insert before.reports name c.new-stamped.result
    ∙ ap (insert (mapped stamped_report_of before.reports) name) made in
    (λ i. version_of ((c.self.view_is i).number + 1) (put i))
    ∙ version_with_report before.number name report (mapped stamped_report_of before.reports) (absent_held before name c.requires.new)
