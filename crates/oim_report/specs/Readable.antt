-- What is known of a report that was read. The project's own.
use Rattle.std.specs.Prelude.{List, [], ◌∷◌, ⊤}
use Rattle.filing_model.specs.Common.Text.{Text}
use Rattle.filing_model.specs.Oim.Dimensions.{AreDims}
use Rattle.filing_model.specs.Oim.Facts.{Fact, Names}
use Rattle.filing_model.specs.Reading.Fitted.{IsFitted}
use Rattle.filing_model.specs.Oim.Reports.{Report}
use Rattle.oim_report.specs.Parts.{IsInfo}

-- each fact has a dimension set and is fitted to these names
abbrev pub AreFitted : Names → List (Text × Fact) → Type 0
AreFitted names [] = ⊤
AreFitted names (e ∷ es) = AreDims e.1.dims × IsFitted names e.1 × AreFitted names es

-- the facts are fitted to the report's names, and its info is that of its prefixes and its declared value
pub record IsReadable (report : Report) : Type 0 where
  pub facts : AreFitted report.names report.facts.entries
  pub info : IsInfo report.info report.names.prefixes report.allowed
