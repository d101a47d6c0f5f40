-- What is known of a raw fact that was read. The project's own.
use Rattle.std.specs.Prelude.{◌<◌, ◌^◌, ℤ, pos, negsuc, Option, Some, None, ⊤}
use Rattle.filing_model.specs.Oim.Dimensions.{AreDims}
use Rattle.filing_model.specs.Oim.Facts.{RawFact}
use Rattle.filing_model.specs.Reading.Fitted.{AreLinks}

-- a whole number of 64 bits with its sign, or none
abbrev pub AreWholeDecimals : Option ℤ → Type 0
AreWholeDecimals None = ⊤
AreWholeDecimals (Some (pos n)) = n < 2 ^ 63
AreWholeDecimals (Some (negsuc n)) = n < 2 ^ 63

-- its dimensions are a set, its decimals a whole number, and its links the compact text of an object with whole
-- numbers alone
pub record IsReadableFact (raw : RawFact) : Type 0 where
  pub dims : AreDims raw.dims
  pub decimals : AreWholeDecimals raw.decimals
  pub links : AreLinks raw.links
