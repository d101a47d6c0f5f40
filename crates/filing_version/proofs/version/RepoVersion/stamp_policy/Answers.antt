use Rattle.std.proofs.Common.{◌∙◌, sym}
use Rattle.filing_model.specs.Common.TextMap.{get}
use Rattle.filing_model.specs.Sessions.Things as thing
use Rattle.filing_version.proofs.StampedReports.{stamp_there, stamp_nowhere}
use Rattle.filing_version.proofs.version.RepoVersion.stamp_policy.Goals as goal

pub returns-in-Some : goal.returns-in-Some
returns-in-Some c =
    c.policy_stamp.ensures
    ∙ stamp_there c.args.self.now.reports (thing.Policy c.args.report.now) c.in-Some.stamped.now
    ((λ i. get (sym c.self.view_is i).reports c.args.report.now) ∙ sym c.in-Some.ensures)

pub returns-in-None : goal.returns-in-None
returns-in-None c =
    stamp_nowhere c.args.self.now.reports (thing.Policy c.args.report.now)
    ((λ i. get (sym c.self.view_is i).reports c.args.report.now) ∙ sym c.in-None.ensures)
