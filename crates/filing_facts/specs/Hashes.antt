-- The hashes by which look-ups find the facts of one report: those that one look-up finds have one hash.
-- The project's own; the hash is SipHash-1-3 with both keys 0, which is that of std's `DefaultHasher`.
use Rattle.std.specs.Prelude.{ℕ, ◌*◌, ◌/◌, [], ◌∷◌, ◌++◌, length, take, drop, replicate, fold, Option, Some, None}
use Rattle.std.specs.Prelude.{unwrap_or}
use Rattle.std.specs.List.{flat_map}
use Rattle.std.specs.Hash.{HashWrites}
use Rattle.std.specs.Hash.DefaultHasher as sip
use Rattle.std.specs.declared.hash.DefaultHasher.{DefaultHasher}
use Rattle.filing_model.specs.Common.Text.{Text}
use Rattle.filing_model.specs.Oim.Dimensions.{Dims, concept_of, period_of}
use Rattle.filing_model.specs.Oim.Facts.{Fact}
use Rattle.filing_model.specs.Sessions.Calls.{PeriodFilter, Any, Without, Exactly}

-- the hasher after these writes
abbrev pub fed_with : DefaultHasher → HashWrites → DefaultHasher
fed_with state writes = fold sip.write state writes

-- the hash of what a hasher is fed
abbrev pub hash_of_value : HashWrites → ℕ
hash_of_value writes = sip.finish (fed_with sip.initial writes)

-- ---- what a hasher is fed: whole words of eight bytes, since it takes anything else byte by byte

-- a text: its bytes, then 0xFF, which no text has, up to the end of a word and at least once
unfoldable pub fed_text : Text → HashWrites
fed_text text =
    let whole = length text / 8 * 8 in
    take whole text ∷ (drop whole text ++ drop (length (drop whole text)) (replicate 8 255)) ∷ []

-- a value, or a word of bytes that no text has
unfoldable pub fed_value : Option Text → HashWrites
fed_value (Some text) = fed_text text
fed_value None = replicate 8 254 ∷ []

-- names with their values, one after the other
unfoldable pub fed_dims : Dims → HashWrites
fed_dims dims = flat_map (λ d. fed_text d.0 ++ fed_value d.1) dims

-- ---- of what is looked for

-- the hash of a cell
abbrev pub hash_of_dims : Dims → ℕ
hash_of_dims dims = hash_of_value (fed_dims dims)

-- the hash of a concept with a period, or with none
abbrev pub hash_of_period : Text → Option Text → ℕ
hash_of_period concept period = hash_of_value (fed_text concept ++ fed_value period)

-- the hash of a concept with any period
abbrev pub hash_of_concept : Text → ℕ
hash_of_concept concept = hash_of_value (fed_text concept)

-- the hash of a page query
abbrev pub hash_of_query : Text → PeriodFilter → ℕ
hash_of_query concept Any = hash_of_concept concept
hash_of_query concept Without = hash_of_period concept None
hash_of_query concept (Exactly period) = hash_of_period concept (Some period)

-- ---- of a fact

-- its concept. Each dimension set has one
abbrev pub concept_in : Fact → Text
concept_in fact = unwrap_or (concept_of fact.dims) []

abbrev pub cell_hash : Fact → ℕ
cell_hash fact = hash_of_dims fact.dims

abbrev pub period_hash : Fact → ℕ
period_hash fact = hash_of_period (concept_in fact) (period_of fact.dims)

abbrev pub concept_hash : Fact → ℕ
concept_hash fact = hash_of_concept (concept_in fact)

-- the hash by which a page query finds a fact
abbrev pub query_hash : PeriodFilter → Fact → ℕ
query_hash Any fact = concept_hash fact
query_hash Without fact = period_hash fact
query_hash (Exactly period) fact = period_hash fact
