use Rattle.std.proofs.Common.{◌∙◌, ap, option_map, unwrap_or}
use Rattle.std.specs.Arc.{arc_value}
use Rattle.filing_model.specs.Oim.Reports.{Report}
use Rattle.filing_model.specs.Sessions.Repository.{Repository, report_at}
use Rattle.filing_model.specs.Sessions.Changes.{Change}
use Rattle.filing_version.specs.StampedReports.{StampedReports, repository_in}
use Rattle.filing_session.proofs.PendingChanges.{names_laid}
use Rattle.filing_session.proofs.staging.Staging.names.Goals as goal

pub returns : goal.returns
returns c =
    let inside = c.self.inside in
    let report = c.args.report.now in
    c.names.ensures
    ∙ ap (λ (v : StampedReports). option_map (λ (r : Report). r.names) (report_at (repository_in v) report)) c.deref.ensures
    ∙ names_laid (repository_in (arc_value inside.version)) (unwrap_or inside.pending inside.change) report
    ∙ ap (λ (s : Repository × Change). option_map (λ (r : Report). r.names) (report_at s.0 report)) c.self.view_is
