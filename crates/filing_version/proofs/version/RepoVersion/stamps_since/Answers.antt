use Rattle.std.proofs.Common.{◌∙◌, ap, subst, max, List}
use Rattle.std.specs.Option.{option_map_or}
use Rattle.filing_model.specs.Common.TextMap.{get}
use Rattle.filing_stamps.specs.Stamps.{Stamp, stamp_in as part_stamp}
use Rattle.filing_version.specs.StampedReports.{StampedReports, StampedReportValue, IsStampedUpTo, mapped, stamped_report_of, thing_in}
use Rattle.filing_version.proofs.StampedReports.{part_stamped, none_since}
use Rattle.filing_version.proofs.version.RepoVersion.stamps_since.Goals as goal

pub returns : goal.returns
returns c = λ part.
    ap (max c.args.since) (ap (λ (s : List Stamp). part_stamp s part) c.stamps.ensures
    ∙ ap (λ o. option_map_or (λ (r : StampedReportValue). part_stamp r.stamps part) o 0)
    (c.in-Some.ensures ∙ (λ i. get (c.self.view_is i).reports c.args.report.now))
    ∙ part_stamped c.args.self.now.reports c.args.report.now part)

pub returns-in_default : goal.returns-in_default
returns-in_default c = λ part.
    ap (max c.args.since) (ap (λ o. option_map_or (λ (r : StampedReportValue). part_stamp r.stamps part) o 0)
    (c.in_default.ensures ∙ (λ i. get (c.self.view_is i).reports c.args.report.now))
    ∙ part_stamped c.args.self.now.reports c.args.report.now part)

pub returns-then-self-since : goal.returns-then-self-since
returns-then-self-since c = λ part.
    none_since c.self.inside.number c.args.since c.args.self.now (thing_in c.args.report.now part)
    (subst (λ (v : StampedReports). IsStampedUpTo c.self.inside.number (mapped stamped_report_of v.reports)) c.self.view_is c.self.invariant)
    c.if-self-since.true
