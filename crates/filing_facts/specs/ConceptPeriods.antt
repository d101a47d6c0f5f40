-- A concept with a period, or with none, and its hashes. The project's own.
use Rattle.std.specs.Prelude.{◌≡◌, ℕ, Option, Some}
use Rattle.filing_model.specs.Common.Text.{Text}
use Rattle.filing_model.specs.Oim.Dimensions.{Dims, concept_of, period_of}
use Rattle.filing_model.specs.Oim.Facts.{Fact}
use Rattle.filing_facts.specs.Hashes.{hash_of_concept, hash_of_period, cell_hash}

pub record ConceptPeriod : Type 0 where
  pub concept : Text
  pub period : Option Text

abbrev pub keys_of : Text → Option Text → ConceptPeriod
keys_of concept period = record { concept = concept; period = period }

-- this is the concept and the period of these dimensions
pub record IsConceptPeriodOf (dims : Dims) (keys : ConceptPeriod) : Type 0 where
  pub concept : Some keys.concept ≡ concept_of dims
  pub period : keys.period ≡ period_of dims

-- these are the hashes of the concept alone, and of it with the period
pub record HasItsHashes (keys : ConceptPeriod) (of_concept of_period : ℕ) : Type 0 where
  pub of_concept_is : of_concept ≡ hash_of_concept keys.concept
  pub of_period_is : of_period ≡ hash_of_period keys.concept keys.period

-- this is the hash of the fact's cell, and these are its concept and its period
pub record IsKeyed (fact : Fact) (cell : ℕ) (keys : ConceptPeriod) : Type 0 where
  pub cell_is : cell ≡ cell_hash fact
  pub keys_are : IsConceptPeriodOf fact.dims keys
