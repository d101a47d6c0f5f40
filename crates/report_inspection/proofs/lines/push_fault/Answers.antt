use Rattle.std.proofs.Common.{◌∙◌, ◌++◌, ap, refl, map, string_bytes, option_map}
use Rattle.std.specs.List.{flat_map}
use Rattle.oim_report.specs.Faults.{report_fault}
use Rattle.report_inspection.specs.Lines.{reason_line}
use Rattle.report_inspection.proofs.WrittenLines.{fault_pushed}
use Rattle.report_inspection.proofs.lines.push_fault.Goals as goal

pub returns : goal.returns
returns c =
    fault_pushed c.args.file.now c.args.fault.now (string_bytes c.args.out.now) (string_bytes c.push_reasons.new.out) (string_bytes c.push_more.new.out)
    _ _ (report_fault c.args.fault.now.fault) refl c.in-Some.ensures c.fault_id-id.ensures
    (c.in_ok-push_reasons.ensures
    ∙ ap (λ xs. string_bytes c.args.out.now
    ++ flat_map (reason_line c.args.file.now (option_map (λ t. t.now) c.fault_id-id.result) c.in-Some.word.now) (map string_bytes xs)) c.deref.ensures.value)
    c.in_ok-push_more.ensures
