use Rattle.std.specs.Prelude.{⊤}
use Rattle.std.specs.Str.{is_utf8, chars}
use Rattle.std.specs.Fmt.{digits}
use Rattle.serde_json.proofs.OnLiterals.{serde_json_on_literals}
use Rattle.filing_model.specs.Reading.JsonText.{json_of}
use Rattle.filing_model.specs.Reading.Writing.{raw_fact_text, report_text}
use Rattle.filing_model.specs.Reading.DeclaredValue.{with_allowed}

-- what a proof unfolds to compute what is read of a literal, and what is written
unfoldable pub filing_on_literals : ⊤
unfolding is_utf8 chars digits serde_json_on_literals json_of raw_fact_text report_text with_allowed
filing_on_literals = tt
