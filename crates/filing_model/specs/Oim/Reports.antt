-- Reports (xBRL-JSON 1.0). A report need not obey its allowed duplicates: a load tests that.
use Rattle.filing_model.specs.Common.Text.{Text}
use Rattle.filing_model.specs.Common.TextMap.{TextMap}
use Rattle.filing_model.specs.Oim.Facts.{Fact, Names}
use Rattle.filing_model.specs.declared.duplicates.Allowed.{Allowed}

-- info is the compact text of `documentInfo`; the facts stand under their identifiers
pub record Report : Type 0 where
  pub info : Text
  pub names : Names
  pub allowed : Allowed
  pub facts : TextMap Fact
