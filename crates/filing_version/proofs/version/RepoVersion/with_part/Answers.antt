use Rattle.std.proofs.Common.{◌≡◌, ◌∙◌, ap, sym, Some}
use Rattle.std.specs.Prelude.{string_bytes}
use Rattle.std.proofs.lemmas.Result.{IfOk-weaker}
use Rattle.filing_model.specs.Common.TextMap.{get}
use Rattle.filing_model.specs.Sessions.Repository.{with_report_at}
use Rattle.filing_model.specs.Sessions.Changes.{ReportChange, changed}
use Rattle.filing_version.specs.StampedReports.{stamped_report_of, version_in, repository_in}
use Rattle.filing_version.proofs.StampedReports.{parts_up_to, keeps_its_stamps, changed_there}
use Rattle.filing_version.proofs.version.RepoVersion.with_part.Goals as goal

pub with_change-requires : goal.with_change-requires
with_change-requires c =
    parts_up_to c.self.inside.number c.self.inside.reports c.name.result.now c.in-Some.stamped.now (sym c.in-Some.ensures) c.self.invariant.up_to

pub with_stamped_report-requires : goal.with_stamped_report-requires
with_stamped_report-requires c =
    let name = string_bytes c.in_ok-name.name in
    let held : get c.args.self.now.reports name ≡ Some c.in-Some.stamped.now =
    (λ i. get (sym c.self.view_is i).reports ((c.in_ok-name.ensures.ok ∙ c.name-2.ensures ∙ sym c.name.ensures) i)) ∙ sym c.in-Some.ensures in
    (c.in-Some.stamped.now, keeps_its_stamps c.args.self.now.reports name c.in-Some.stamped.now c.in_ok-changed.changed _ held c.in_ok-changed.ensures)

pub returns : goal.returns
returns c =
    let before = c.args.self.now in
    let part = c.args.part.now in
    let old = c.in-Some.stamped.now in
    let held : get before.reports part.0 ≡ Some old = (λ i. get (sym c.self.view_is i).reports (sym c.name.ensures i)) ∙ sym c.in-Some.ensures in
    let made : stamped_report_of c.in_ok-changed.changed ≡ record (stamped_report_of old) { report = changed part.1 old.report } =
    c.in_ok-changed.ensures ∙ ap (λ (change : ReportChange). record (stamped_report_of old) { report = changed change old.report }) c.value.ensures in
    let there = ap (λ name. with_report_at (repository_in before) name c.in_ok-changed.changed.report) (c.in_ok-name.ensures.ok ∙ c.name-2.ensures)
    ∙ changed_there before part.0 old c.in_ok-changed.changed held part.1 made in
    IfOk-weaker c.with_stamped_report.result _ _ (λ v is. is ∙ ap (λ r. record (version_in before) { repository = r }) there) c.with_stamped_report.ensures
