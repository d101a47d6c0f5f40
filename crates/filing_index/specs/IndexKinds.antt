-- The kinds of indexes of the facts of one report. The project's own.
use Rattle.std.specs.Prelude.{ℕ, List}
use Rattle.filing_model.specs.Oim.Facts.{Fact}
use Rattle.filing_model.specs.Common.TextMap.{TextMap}
use Rattle.filing_facts.specs.Hashes.{cell_hash, period_hash, concept_hash}
use Rattle.filing_index.specs.Index.{IndexEntry, IsIndex}
use Rattle.filing_index.specs.declared.index_entry.IndexKind.{IndexKind}
use Rattle.filing_index.specs.declared.index_entry.IndexKind.TheVariants.{Cell, Period, Concept}

-- the hash of a fact in an index of a kind
abbrev pub hash_in : IndexKind → Fact → ℕ
hash_in Cell fact = cell_hash fact
hash_in Period fact = period_hash fact
hash_in Concept fact = concept_hash fact

-- these are the indexes of the facts, one of each kind
pub record AreIndexes (facts : TextMap Fact) (by_cell by_period by_concept : List IndexEntry) : Type 0 where
  pub cell : IsIndex cell_hash facts by_cell
  pub period : IsIndex period_hash facts by_period
  pub concept : IsIndex concept_hash facts by_concept
