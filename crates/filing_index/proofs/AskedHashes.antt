-- Facts that one look-up finds have one hash.
use Rattle.std.proofs.Common.{◌≡◌, ap, sym, refl, true, [], Option, Some, None, true≢false}
use Rattle.std.specs.Prelude.{is_none, unwrap_or}
use Rattle.std.specs.Option.{option_eq}
use Rattle.std.proofs.lemmas.Bool.{and_parts}
use Rattle.filing_model.specs.Common.Text.{Text, text_eq}
use Rattle.filing_model.specs.Oim.Dimensions.{Dims, concept_of, period_of}
use Rattle.filing_model.specs.Oim.Facts.{Fact}
use Rattle.filing_model.specs.Sessions.Calls.{PeriodFilter, Any, Without, Exactly}
use Rattle.filing_model.specs.Oim.Duplicates.{has_dims}
use Rattle.filing_model.specs.Sessions.Queries.{is_asked, answers_query}
use Rattle.filing_model.proofs.Oim.DimensionSets.{dims_decides}
use Rattle.filing_model.proofs.Common.Texts.{text_same}
use Rattle.filing_facts.specs.Hashes.{hash_of_dims, hash_of_period, hash_of_concept, hash_of_query, cell_hash, query_hash}

pub hash_of_cell : (dims : Dims) (fact : Fact) → has_dims dims fact ≡ true → cell_hash fact ≡ hash_of_dims dims
hash_of_cell dims fact h = ap hash_of_dims (sym ((dims_decides dims fact.dims).0 h))

same_some : (text : Text) (found : Option Text) → option_eq text_eq (Some text) found ≡ true → found ≡ Some text
same_some text None h = absurd (true≢false (sym h))
same_some text (Some other) h = ap Some (sym (text_same text other h))

no_text : (found : Option Text) → is_none found ≡ true → found ≡ None
no_text None h = refl
no_text (Some text) h = absurd (true≢false (sym h))

by_parts : (concept : Text) (period : PeriodFilter) (fact : Fact) → concept_of fact.dims ≡ Some concept → is_asked period (period_of fact.dims) ≡ true
    → query_hash period fact ≡ hash_of_query concept period
by_parts concept Any fact c p = ap (λ o. hash_of_concept (unwrap_or o [])) c
by_parts concept Without fact c p = λ i. hash_of_period (unwrap_or (c i) []) (no_text (period_of fact.dims) p i)
by_parts concept (Exactly text) fact c p = λ i. hash_of_period (unwrap_or (c i) []) (same_some text (period_of fact.dims) p i)

pub hash_of_page : (concept : Text) (period : PeriodFilter) (fact : Fact) → answers_query concept period fact ≡ true
    → query_hash period fact ≡ hash_of_query concept period
hash_of_page concept period fact h =
    let parts = and_parts (option_eq text_eq (Some concept) (concept_of fact.dims)) (is_asked period (period_of fact.dims)) h in
    by_parts concept period fact (same_some concept (concept_of fact.dims) parts.0) parts.1
