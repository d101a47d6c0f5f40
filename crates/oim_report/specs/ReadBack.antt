-- What is written is JSON, and is read back. `serde_json` reads texts that nest at most `max_depth` deep, which is 127.
use Rattle.std.specs.Prelude.{◌≡◌, Some, Ok}
use Rattle.serde_json.specs.Data.{Data}
use Rattle.serde_json.specs.Read.{max_depth}
use Rattle.serde_json.specs.Written.{compact_text}
use Rattle.filing_model.specs.Reading.JsonText.{json_of, IsWritable}
use Rattle.filing_model.specs.Oim.Dimensions.{AreDims}
use Rattle.filing_model.specs.Oim.Facts.{RawFact, Fact, Names, fit_of}
use Rattle.filing_model.specs.Reading.Fitted.{IsFitted}
use Rattle.filing_model.specs.Oim.Reports.{Report}
use Rattle.filing_model.specs.Reading.ReadFact.{raw_fact_of}
use Rattle.filing_model.specs.Reading.ReadReport.{read_report_of}
use Rattle.filing_model.specs.Reading.Writing.{raw_of, raw_fact_text, fact_text, report_text}
use Rattle.oim_report.specs.JsonValues.{IsJsonValue}
use Rattle.oim_report.specs.Nesting.{NestsWithin}
use Rattle.oim_report.specs.Readable.{IsReadable}
use Rattle.oim_report.specs.ReadableFact.{IsReadableFact}

-- a value with whole numbers alone is read from its compact text
abbrev pub ValuesAreReadBack : Type 0
ValuesAreReadBack = (d : Data) → IsWritable d → NestsWithin max_depth (compact_text d)
    → json_of (compact_text d) ≡ Some d

-- the text of a raw fact is a JSON value, of which the same raw fact is read
abbrev pub RawFactsAreReadBack : Type 0
RawFactsAreReadBack = (raw : RawFact) → IsReadableFact raw → NestsWithin max_depth (raw_fact_text raw)
    → (d : Data) × (json_of (raw_fact_text raw) ≡ Some d) × (raw_fact_of d ≡ Ok raw)

-- no other raw fact is read
abbrev pub RawFactsAreReadable : Type 0
RawFactsAreReadable = (d : Data) (raw : RawFact) → IsJsonValue d → raw_fact_of d ≡ Ok raw
    → IsReadableFact raw

-- the text of a fitted fact is a JSON value; the raw fact that is read of it fits to the same fact
abbrev pub FactsAreReadBack : Type 0
FactsAreReadBack = (names : Names) (fact : Fact) → AreDims fact.dims → IsFitted names fact
    → NestsWithin max_depth (fact_text fact)
    → (d : Data) × (json_of (fact_text fact) ≡ Some d)
    × (raw_fact_of d ≡ Ok (raw_of fact)) × (fit_of names (raw_of fact) ≡ Ok fact)

-- a report with fitted facts is read from its text, with the numeric table of its names, as the same report
abbrev pub ReportsAreReadBack : Type 0
ReportsAreReadBack = (report : Report) → IsReadable report → NestsWithin max_depth (report_text report)
    → read_report_of report.names.table (report_text report) ≡ Ok report
