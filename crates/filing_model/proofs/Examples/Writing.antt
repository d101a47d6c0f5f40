-- Worked examples of what is written for facts and reports.
use Rattle.std.specs.Prelude.{◌≡◌, ◌++◌, pos, codes, None, Some, Result, Ok, refl}
use Rattle.filing_model.specs.Common.Text.{Text}
use Rattle.filing_model.specs.Common.Try.{◌>>=◌}
use Rattle.filing_model.specs.Reading.Writing.{raw_fact_text, report_text}
use Rattle.filing_model.proofs.OnLiterals.{filing_on_literals}
use Rattle.filing_model.specs.Reading.ReadReport.{ReportFault}
use Rattle.filing_model.proofs.Examples.ReadFact.{raw}
use Rattle.filing_model.proofs.Examples.ReadReport.{read_literal, report_with, bound}

-- a raw fact keeps decimals beside null
pub raw_decimals_beside_null : raw_fact_text (raw (codes "ex:Name") None (Some (pos 0)))
    ≡ codes "{\"decimals\":0,\"dimensions\":{\"concept\":\"ex:Name\"},\"value\":null}"
unfolding filing_on_literals
raw_decimals_beside_null = refl

-- ---- reports

-- what is written of the report that a text is
abbrev rewritten : Text → Result Text ReportFault
rewritten text = do
  report ← read_literal text
  Ok (report_text report)

pub members_in_byte_order : rewritten
    (report_with bound (codes
    "{\"b\":{\"value\":\"1000\",\"decimals\":-3,\"dimensions\":{\"concept\":\"ex:Assets\"}},"
    ++ codes "\"a\":{\"value\":null,\"links\":{\"y\":1,\"x\":[]},\"dimensions\":{\"ex:d\":null,\"concept\":\"ex:Name\"}}}"))
    ≡ Ok (report_with bound (codes
    "{\"a\":{\"dimensions\":{\"concept\":\"ex:Name\",\"ex:d\":null},\"links\":{\"x\":[],\"y\":1},\"value\":null},"
    ++ codes "\"b\":{\"decimals\":-3,\"dimensions\":{\"concept\":\"ex:Assets\"},\"value\":\"1000\"}}"))
unfolding filing_on_literals
members_in_byte_order = refl
