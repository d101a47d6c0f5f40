use Rattle.std.proofs.Common.{◌≡◌, ◌∙◌, ap, sym, Some, None, option_map}
use Rattle.std.specs.Option.{option_map_or}
use Rattle.filing_model.specs.Common.TextMap.{get, insert}
use Rattle.filing_version.specs.StampedReports.{StampedReport, mapped, stamped_report_of, changed_stamped_report}
use Rattle.filing_version.proofs.NextVersions.{get-mapped}
use Rattle.filing_version.proofs.StampedReports.{parts_up_to, stamped_one}
use Rattle.filing_version.proofs.version.with_stamped_part.Goals as goal

pub after-requires : goal.after-requires
after-requires c =
    parts_up_to c.args.number c.args.reports.now c.name.result.now c.in-Some.stamped.now (sym c.in-Some.ensures) c.requires.up_to

pub returns : goal.returns
returns c =
    let number = c.args.number in
    let m = c.args.reports.now in
    let part = c.args.part.now in
    let stamped = c.in-Some.stamped.now in
    let held : get m part.0 ≡ Some stamped = ap (get m) (sym c.name.ensures) ∙ sym c.in-Some.ensures in
    let made : stamped_report_of c.in_ok-next.next ≡ changed_stamped_report number part.1 (stamped_report_of stamped) =
    c.in_ok-next.ensures ∙ ap (λ change. changed_stamped_report number change (stamped_report_of stamped)) c.value.ensures in
    let put : c.in_ok-reports.reports ≡ insert m part.0 c.in_ok-next.next =
    c.in_ok-reports.ensures ∙ ap (λ name. insert m name c.in_ok-next.next) (c.in_ok-name.ensures.ok ∙ c.name-2.ensures) in
    stamped_one number m c.in_ok-reports.reports part stamped c.in_ok-next.next held made put

pub returns-in_default : goal.returns-in_default
returns-in_default c =
    let m = c.args.reports.now in
    let part = c.args.part.now in
    let none : get (mapped stamped_report_of m) part.0 ≡ None =
    get-mapped stamped_report_of m part.0 ∙ ap (option_map stamped_report_of) (ap (get m) (sym c.name.ensures) ∙ sym c.in_default.ensures) in
    sym (ap (λ o. option_map_or (λ (f : StampedReport). insert (mapped stamped_report_of m) part.0 (changed_stamped_report c.args.number part.1 f)) o
    (mapped stamped_report_of m)) none)
