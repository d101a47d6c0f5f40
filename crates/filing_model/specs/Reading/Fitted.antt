-- Which facts are read back from their text. The project's own.
use Rattle.std.specs.Prelude.{◌≡◌, Option, Some, None, Ok, ⊤}
use Rattle.serde_json.specs.Data.{Members, object}
use Rattle.serde_json.specs.Written.{compact_text}
use Rattle.filing_model.specs.Common.Text.{Text}
use Rattle.filing_model.specs.Reading.JsonText.{IsWritable}
use Rattle.filing_model.specs.Oim.Facts.{RawFact, Fact, Names, fit_of}

-- absent, or the compact text of an object with whole numbers alone
abbrev pub AreLinks : Option Text → Type 0
AreLinks None = ⊤
AreLinks (Some links) = (ms : Members) × IsWritable (object ms) × (links ≡ compact_text (object ms))

-- some raw fact fits to it by these names
abbrev pub IsFitted : Names → Fact → Type 0
IsFitted names fact = (raw : RawFact) × AreLinks raw.links × (fit_of names raw ≡ Ok fact)
