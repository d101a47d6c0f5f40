use Rattle.std.proofs.Common.{◌∙◌, ap}
use Rattle.filing_model.specs.Sessions.Changes.{changed_at}
use Rattle.filing_version.specs.StampedReports.{StampedReports, version_in, repository_in}
use Rattle.filing_version.proofs.TakenReports.{version_in_place, up_to_in_place}
use Rattle.filing_version.proofs.version.RepoVersion.into_with_part.Goals as goal

pub invariant_of-result : goal.invariant_of-result
invariant_of-result c =
    let entry = c.changed_entry-changed.ensures in
    up_to_in_place c.self.inside.reports _ _ c.in-Some.is c.in_ok-reports.ensures.some c.args.part.now c.name.ensures c.value.ensures entry.name
    c.in_ok-reports-in-Some.ensures c.self.inside.number entry.report c.self.invariant

pub returns-in_ok-reports-in-Some : goal.returns-in_ok-reports-in-Some
returns-in_ok-reports-in-Some c =
    let entry = c.changed_entry-changed.ensures in
    version_in_place c.self.inside.reports _ _ c.in-Some.is c.in_ok-reports.ensures.some c.args.part.now c.name.ensures c.value.ensures entry.name
    c.in_ok-reports-in-Some.ensures c.self.inside.number entry.report
    ∙ ap (λ (v : StampedReports). record (version_in v) { repository = changed_at (repository_in v) c.args.part.now }) c.self.view_is
