use Rattle.std.proofs.Common.{◌≡◌, ◌∙◌, [], ap, sym, arith, Some, None, true, is_some}
use Rattle.json.specs.Json as json
use Rattle.json.specs.Lex.{tokens}
use Rattle.json.specs.Reads.{token_of}
use Rattle.serde_json.specs.Read.{converted, max_depth, of_json, read}
use Rattle.serde_json.specs.View.{view}
use Rattle.filing_model.proofs.Reading.JsonTexts.{json_of-Some, json_of-None}
use Rattle.script_format.proofs.ReadValues.{whole_more, whole_read, whole_refused}
use Rattle.script_format.proofs.line_value.json_value_in.Goals as goal

pub returns-in_default : goal.returns-in_default
returns-in_default c = sym (json_of-None c.args.bytes.now (λ u. absurd (c.in_default.ensures.cases.0 u)))

pub returns-then-is_none : goal.returns-then-is_none
returns-then-is_none c =
    let text = c.in-Ok.ensures.cases in
    let d = view c.in-Some.value in
    let last : c.read.new.reader ≡ [] = grind arith in
    let found : converted of_json (json.value max_depth c.in_ok-reader.reader) ≡ Some (d, c.read.new.reader) = grind arith in
    let whole = whole_read (json.value max_depth (tokens c.in-Ok.text.now)) d
    (ap (λ ts. converted of_json (json.value max_depth ts)) (sym c.in_ok-reader.ensures.ok) ∙ found ∙ ap (λ r. Some (d, r)) last) in
    sym (json_of-Some c.args.bytes.now d (text.1, ap read (sym text.0) ∙ whole))

pub returns-else-is_none : goal.returns-else-is_none
returns-else-is_none c =
    let text = c.in-Ok.ensures.cases in
    let d = view c.in-Some.value in
    let more : is_some c.next.result ≡ true = grind arith in
    let found : converted of_json (json.value max_depth c.in_ok-reader.reader) ≡ Some (d, c.read.new.reader) = grind arith in
    let whole = whole_more c.next.result token_of _ (json.value max_depth (tokens c.in-Ok.text.now)) d c.read.new.reader _ more c.next.ensures.value
    (ap (λ ts. converted of_json (json.value max_depth ts)) (sym c.in_ok-reader.ensures.ok) ∙ found) in
    sym (json_of-None c.args.bytes.now (λ u. ap read (sym text.0) ∙ whole))

pub returns-in-None : goal.returns-in-None
returns-in-None c =
    let text = c.in-Ok.ensures.cases in
    let refused : converted of_json (json.value max_depth c.in_ok-reader.reader) ≡ None = grind arith in
    let whole = whole_refused (json.value max_depth (tokens c.in-Ok.text.now))
    (ap (λ ts. converted of_json (json.value max_depth ts)) (sym c.in_ok-reader.ensures.ok) ∙ refused) in
    sym (json_of-None c.args.bytes.now (λ u. ap read (sym text.0) ∙ whole))
