-- What a session finds by dimensions rather than by identifier: cells and pages. The project's own.
use Rattle.std.specs.Prelude.{ℕ, zero, suc, Bool, true, ◌&&◌, List, [], ◌∷◌, map, take, Option, None, Some, is_none, is_some}
use Rattle.std.specs.List.{filter}
use Rattle.std.specs.Option.{option_eq, option_map_or}
use Rattle.std.specs.Ordering.{is_lt}
use Rattle.filing_model.specs.Common.Text.{Text, text_cmp, text_eq}
use Rattle.filing_model.specs.Common.TextMap.{TextMap}
use Rattle.filing_model.specs.Oim.Dimensions.{Dims, concept_of, period_of}
use Rattle.filing_model.specs.Oim.Facts.{Fact}
use Rattle.filing_model.specs.Sessions.Calls.{PeriodFilter, Any, Without, Exactly, PageQuery}
use Rattle.filing_model.specs.Oim.Duplicates.{cell_of}

-- the facts of one dimension set, and their identifiers in byte order
abbrev pub cell_facts : Dims → TextMap Fact → List Fact
cell_facts dims facts = map (λ e. e.1) (cell_of dims facts.entries)

abbrev pub cell_ids : Dims → TextMap Fact → List Text
cell_ids dims facts = map (λ e. e.0) (cell_of dims facts.entries)

-- whether a period, or none, passes the filter
abbrev pub is_asked : PeriodFilter → Option Text → Bool
is_asked Any period = true
is_asked Without period = is_none period
is_asked (Exactly text) period = option_eq text_eq (Some text) period

-- whether a fact has the concept and a period that passes the filter
abbrev pub answers_query : Text → PeriodFilter → Fact → Bool
answers_query concept period fact =
    option_eq text_eq (Some concept) (concept_of fact.dims) && is_asked period (period_of fact.dims)

-- the identifiers of those facts in byte order
abbrev pub query_ids : Text → PeriodFilter → TextMap Fact → List Text
query_ids concept period facts = map (λ e. e.0) (filter (λ e. answers_query concept period e.1) facts.entries)

-- whether an identifier is greater than the one that a page goes on after
abbrev pub is_after : Option Text → Text → Bool
is_after after id = option_map_or (λ last. is_lt (text_cmp last id)) after true

abbrev pub ids_after : Option Text → List Text → List Text
ids_after after ids = filter (is_after after) ids

-- all that a page looks for, in byte order
abbrev pub ids_for : PageQuery → TextMap Fact → List Text
ids_for query facts = ids_after query.after (query_ids query.concept query.period facts)

-- the first of them, as many as the limit
abbrev pub page_ids : ℕ → List Text → List Text
page_ids limit ids = take limit ids

-- the first that the limit cuts, or none where it cuts nothing
abbrev pub first_cut : ℕ → List Text → Option Text
first_cut n [] = None
first_cut zero (id ∷ ids) = Some id
first_cut (suc n) (id ∷ ids) = first_cut n ids

-- whether the limit cuts some
abbrev pub page_has_more : ℕ → List Text → Bool
page_has_more limit ids = is_some (first_cut limit ids)
