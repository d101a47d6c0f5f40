-- What of a fact is looked for. The project's own.
use Rattle.std.specs.Prelude.{ℕ, Bool}
use Rattle.filing_model.specs.Oim.Facts.{Fact}
use Rattle.filing_model.specs.Oim.Duplicates.{has_dims}
use Rattle.filing_model.specs.Sessions.Queries.{answers_query}
use Rattle.filing_facts.specs.Hashes.{hash_of_dims, hash_of_query, cell_hash, query_hash}
use Rattle.oim_fact.specs.PeriodFilterRef.{period_filter_of}
use Rattle.filing_index.specs.declared.look_ups.Wanted.{Wanted}
use Rattle.filing_index.specs.declared.look_ups.Wanted.TheVariants as wanted

-- whether a fact is one that is looked for
abbrev pub is_wanted : Wanted → Fact → Bool
is_wanted (wanted.Cell dims) fact = has_dims dims.now fact
is_wanted (wanted.Query concept period) fact = answers_query concept.now (period_filter_of period) fact

-- the hash of the facts that are looked for, and that of a fact by which they are
abbrev pub hash_of : Wanted → ℕ
hash_of (wanted.Cell dims) = hash_of_dims dims.now
hash_of (wanted.Query concept period) = hash_of_query concept.now (period_filter_of period)

abbrev pub hashed_by : Wanted → Fact → ℕ
hashed_by (wanted.Cell dims) fact = cell_hash fact
hashed_by (wanted.Query concept period) fact = query_hash (period_filter_of period) fact
