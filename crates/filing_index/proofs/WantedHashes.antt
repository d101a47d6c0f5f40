-- The facts that are looked for have the hash by which they are.
use Rattle.filing_index.specs.Found.{HaveHash}
use Rattle.oim_fact.specs.PeriodFilterRef.{period_filter_of}
use Rattle.filing_index.specs.Wanted.{is_wanted, hash_of, hashed_by}
use Rattle.filing_index.specs.declared.look_ups.Wanted.{Wanted}
use Rattle.filing_index.specs.declared.look_ups.Wanted.TheVariants.{Cell, Query}
use Rattle.filing_index.proofs.AskedHashes.{hash_of_cell, hash_of_page}

pub hash_of_wanted : (wanted : Wanted) → HaveHash (hashed_by wanted) (hash_of wanted) (is_wanted wanted)
hash_of_wanted (Cell dims) = λ fact h. hash_of_cell dims.now fact h
hash_of_wanted (Query concept period) = λ fact h. hash_of_page concept.now (period_filter_of period) fact h
