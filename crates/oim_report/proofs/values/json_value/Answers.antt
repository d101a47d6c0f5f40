use Rattle.std.proofs.Common.{◌∙◌, sym, true≢false}
use Rattle.filing_model.proofs.Reading.JsonTexts.{json_of-Some, json_of-None}
use Rattle.oim_report.proofs.values.json_value.Goals as goal

pub returns-in-Ok : goal.returns-in-Ok
returns-in-Ok c = sym (json_of-Some c.args.bytes.now _ c.in-Ok.ensures.ok)

pub returns-else-is_memory : goal.returns-else-is_memory
returns-else-is_memory c =
    sym (json_of-None c.args.bytes.now
    (c.in-Err.ensures.err (λ memory. true≢false (sym (c.is_memory.ensures.1 memory) ∙ c.if-is_memory.false))))
