use Rattle.std.proofs.Common.{◌∙◌, ap, Some}
use Rattle.std.specs.Prelude.{unwrap_or}
use Rattle.std.proofs.lemmas.Result.{IfOk-weaker}
use Rattle.filing_model.specs.Common.TextMap.{get, insert}
use Rattle.filing_model.specs.Sessions.Changes.{ReportChange}
use Rattle.filing_version.proofs.change.Change.with_declared.Goals as goal

pub returns : goal.returns
returns c =
    let made = ap (insert c.args.self.now c.args.report.now)
    (c.in_ok-changed.ensures
    ∙ ap (λ (r : ReportChange). record r { declared = Some c.args.allowed })
    (c.report_or.ensures ∙ ap (unwrap_or (get c.args.self.now c.args.report.now)) c.new-none.ensures)) in
    IfOk-weaker c.with_report.result _ _ (λ next is. is ∙ made) c.with_report.ensures
