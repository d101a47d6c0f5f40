-- How two page queries stand to each other, part by part. The project's own.
use Rattle.std.specs.Cmp.Lexicographic.{slice_cmp}
use Rattle.std.specs.Option.{option_cmp}
use Rattle.std.specs.Ordering.{ordering_then}
use Rattle.std.specs.declared.cmp.Ordering.{Ordering}
use Rattle.filing_model.specs.Common.Text.{text_cmp}
use Rattle.filing_model.specs.Sessions.Calls.{PageQuery}
use Rattle.filing_model.specs.Sessions.Things.{asked_parts}

-- by concept, then by period, any before none, then by the identifier after which they begin, none before any
abbrev pub page_query_order : PageQuery → PageQuery → Ordering
page_query_order a b =
    ordering_then (ordering_then (text_cmp a.concept b.concept)
    (slice_cmp (option_cmp text_cmp) (asked_parts a.period) (asked_parts b.period)))
    (option_cmp text_cmp a.after b.after)
