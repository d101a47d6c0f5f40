use Rattle.std.proofs.Common.{◌≡◌, ◌∙◌, ap}
use Rattle.std.specs.Prelude.{unwrap_or}
use Rattle.std.proofs.lemmas.Result.{IfOk-weaker}
use Rattle.filing_model.specs.Common.TextMap.{get, insert}
use Rattle.filing_model.specs.Sessions.Changes.{change_in}
use Rattle.filing_version.proofs.change.Change.with_record.Goals as goal

pub returns : goal.returns
returns c =
    let found : c.report_or.result.now ≡ change_in c.args.self.now c.args.report.now =
    c.report_or.ensures ∙ ap (unwrap_or (get c.args.self.now c.args.report.now)) c.new-none.ensures in
    let made = ap (insert c.args.self.now c.args.report.now)
    (c.in_ok-changed.ensures
    ∙ (λ i. record (found i) { facts = insert (found i).facts (c.into_entry.ensures i).0 (c.into_entry.ensures i).1 })) in
    IfOk-weaker c.with_report.result _ _ (λ next is. is ∙ made) c.with_report.ensures
