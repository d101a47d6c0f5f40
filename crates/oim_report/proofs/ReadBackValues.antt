-- A text is read back as the value of which it is the compact text.
use Rattle.std.proofs.Common.{◌≡◌, Some, ap, ◌∙◌}
use Rattle.json.specs.Lex.{tokens}
use Rattle.json.specs.Tree.{json_tokens}
use Rattle.serde_json.specs.Data.{Data}
use Rattle.serde_json.specs.Read.{max_depth}
use Rattle.serde_json.specs.Written.{outline, compact_text}
use Rattle.filing_model.specs.Common.Text.{Text}
use Rattle.filing_model.specs.Reading.JsonText.{json_of}
use Rattle.filing_model.proofs.Reading.JsonTexts.{json_of-Some}
use Rattle.filing_model.proofs.Reading.WrittenValues.{Reads, written_tokens, outline_back}
use Rattle.oim_report.specs.Nesting.{NestsWithin}

-- the text of a value is JSON: its tokens are those of the value's outline, which is read to its end
pub read_back : (d : Data) (text : Text) → Reads d → text ≡ compact_text d → NestsWithin max_depth text
    → json_of text ≡ Some d
read_back d text reads is nests =
    let written : tokens text ≡ json_tokens (outline d) = ap tokens is ∙ written_tokens d reads in
    json_of-Some text d (nests.utf8, outline_back d text reads written (nests.shallow (outline d) written))
