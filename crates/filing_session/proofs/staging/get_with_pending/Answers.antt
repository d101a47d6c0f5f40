use Rattle.std.proofs.Common.{◌∙◌, ap, sym, option_map}
use Rattle.filing_model.specs.Sessions.Repository.{report_at, fact_in}
use Rattle.filing_model.specs.Sessions.Changes.{change_at}
use Rattle.filing_version.specs.Puts.{fact_seen}
use Rattle.filing_version.specs.StampedReports.{repository_in}
use Rattle.filing_session.proofs.PendingChanges.{seen_over, nothing_put, put_there, fact_laid}
use Rattle.filing_session.proofs.staging.get_with_pending.Goals as goal

pub returns-in-NoReport : goal.returns-in-NoReport
returns-in-NoReport c =
    let put = change_at c.args.pending.now c.args.report.now c.args.id.now in
    ap (seen_over put) c.in-NoReport.ensures ∙ fact_laid (repository_in c.args.version.now) c.args.pending.now c.args.report.now c.args.id.now

pub returns-in-None : goal.returns-in-None
returns-in-None c =
    let there = option_map (λ r. fact_in r c.args.id.now) (report_at (repository_in c.args.version.now) c.args.report.now) in
    c.get.ensures
    ∙ sym (nothing_put there)
    ∙ ap (λ put. seen_over put there) c.in-None.ensures
    ∙ fact_laid (repository_in c.args.version.now) c.args.pending.now c.args.report.now c.args.id.now

pub returns-in-Some : goal.returns-in-Some
returns-in-Some c =
    c.get_put.ensures
    ∙ put_there c.get.result c.in_default.not-NoReport (fact_seen c.in-Some.put)
    ∙ (λ i. seen_over (c.in-Some.ensures i) (c.get.ensures i))
    ∙ fact_laid (repository_in c.args.version.now) c.args.pending.now c.args.report.now c.args.id.now
