use Rattle.std.proofs.Common.{◌≡◌, ◌∙◌, [], ap, sym, arith, true, is_some}
use Rattle.json.specs.Value.{value_view}
use Rattle.json.specs.Reads.{token_of}
use Rattle.serde_json.specs.Read.{of_json, read}
use Rattle.filing_model.proofs.Reading.JsonTexts.{json_of-Some, json_of-None}
use Rattle.oim_report.proofs.InRange.{no_value, read_more, read_none, read_whole, the_value}
use Rattle.oim_report.proofs.borrowed.text_value.Goals as goal
use Rattle.oim_report.proofs.borrowed.text_value.Goals.{else-is_none-via-then-is_none+else-is_in_range, else-is_none-via-else-is_none}

pub returns-in_default-clause-value : goal.returns-in_default-clause-value
returns-in_default-clause-value c = sym (json_of-None c.args.bytes.now (λ u. absurd (c.in_default.ensures.cases.0 u)))

pub returns-then-is_in_range-clause-value : goal.returns-then-is_in_range-clause-value
returns-then-is_in_range-clause-value c =
    let j = value_view c.in-Ok-read.value in
    let text = c.in-Ok.ensures.cases in
    let last : c.read.new.reader ≡ [] = grind arith in
    let whole = read_whole c.in-Ok.text.now _ _ j c.in_ok-reader.ensures.ok c.in-Ok-read.ensures.ok last in
    sym (json_of-Some c.args.bytes.now _ (text.1, ap read (sym text.0) ∙ whole ∙ the_value (of_json j) (grind arith)))

pub returns-in-Ok-read-clause-value : goal.returns-in-Ok-read-clause-value
returns-in-Ok-read-clause-value c =
    let j = value_view c.in-Ok-read.value in
    let text = c.in-Ok.ensures.cases in
    let same = ap read (sym text.0) in
    elim c.else-is_none.branch [
      | else-is_none-via-then-is_none+else-is_in_range w ↦
          let last : c.read.new.reader ≡ [] = grind arith in
          let whole = read_whole c.in-Ok.text.now _ _ j c.in_ok-reader.ensures.ok c.in-Ok-read.ensures.ok last in
          sym (json_of-None c.args.bytes.now (λ u. same ∙ whole ∙ no_value (of_json j) (grind arith)))
      | else-is_none-via-else-is_none w ↦
          let more : is_some c.next.result ≡ true = grind arith in
          sym (json_of-None c.args.bytes.now
          (λ u. same ∙ read_more c.next.result token_of _ c.in-Ok.text.now _ _ _ j more c.next.ensures.value c.in_ok-reader.ensures.ok c.in-Ok-read.ensures.ok))
    ]

pub returns-in-Err-Invalid-clause-value : goal.returns-in-Err-Invalid-clause-value
returns-in-Err-Invalid-clause-value c =
    sym (json_of-None c.args.bytes.now (λ u. ap read (sym c.in-Ok.ensures.cases.0)
    ∙ read_none c.in-Ok.text.now _ c.in_ok-reader.ensures.ok (c.read.ensures.invalid (grind arith))))
