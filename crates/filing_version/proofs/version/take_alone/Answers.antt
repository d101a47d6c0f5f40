use Rattle.std.proofs.Common.{◌≡◌, ◌∙◌, ap, subst, Some}
use Rattle.std.specs.Prelude.{option_map, IfSome}
use Rattle.filing_model.specs.Common.Text.{Text}
use Rattle.filing_model.specs.Common.TextMap.{get, insert, remove}
use Rattle.text_map.proofs.TakenEntries.{named_so, insert_back}
use Rattle.filing_version.specs.StampedReports.{StampedReportValue}
use Rattle.filing_version.proofs.version.take_alone.Goals as goal

pub returns-in_ok-reports-in-Err-clause-none : goal.returns-in_ok-reports-in-Err-clause-none
returns-in_ok-reports-in-Err-clause-none c =
    let before = c.args.reports in
    let name = c.args.name.now in
    let taken = subst (λ o. IfSome o (λ (n : Text × StampedReportValue). (Some n ≡ option_map (λ v. (name, v)) (get before name))
    × (c.take-reports.result.0 ≡ remove before name))) c.in-Some.is c.take-reports.ensures.some in
    let so = named_so name c.in-Some.named (get before name) taken.0 in
    λ none. c.in_ok-reports-in-Err.ensures
    ∙ (λ i. insert (taken.1 i) (c.in-Err.ensures i).0 (c.in-Err.ensures i).1)
    ∙ ap (λ t. insert (remove before name) t c.in-Some.named.1) so.0
    ∙ insert_back before name c.in-Some.named.1 so.1
