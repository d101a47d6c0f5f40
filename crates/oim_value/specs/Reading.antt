-- What is read of a text, in the words of the grammar: how it can be spelled, and which number a spelling has.
use Rattle.std.specs.Prelude.{◌≡◌, ◌≢◌, ℤ, Result, Ok, Err}
use Rattle.filing_model.specs.Common.Text.{Text}
use Rattle.filing_model.specs.Oim.Numerals.{Spelling, IsSpelling, IsShort, IsNumberOf, spelled}
use Rattle.filing_model.specs.declared.faults.NumberFault.{NumberFault}
use Rattle.filing_model.specs.declared.faults.NumberFault.TheVariants.{NotANumber, TooLarge}

-- a spelling with few enough digits has its number, one with more is too large, and what is not refused as no numeral
-- is
-- spelled as one
pub record IsReadAsSpelled (text : Text) (result : Result ℤ NumberFault) : Type 0 where
  pub short : (s : Spelling) → IsSpelling s → IsShort s → spelled s ≡ text
      → (n : ℤ) × (result ≡ Ok n) × IsNumberOf s n
  pub long : (s : Spelling) → IsSpelling s → ¬ IsShort s → spelled s ≡ text → result ≡ Err TooLarge
  pub only : result ≢ Err NotANumber → (s : Spelling) × IsSpelling s × (spelled s ≡ text)
