-- The period filter of a page query, as code holds it.
use Rattle.std.specs.Prelude.{string_bytes}
use Rattle.filing_model.specs.Sessions.Calls as call
use Rattle.filing_model.specs.Sessions.Calls.{PeriodFilter as PlainPeriodFilter}
use Rattle.filing_step.specs.declared.page_query.PeriodFilter.{PeriodFilter}
use Rattle.filing_step.specs.declared.page_query.PeriodFilter.TheVariants.{Any, Without, Text}

abbrev pub period_filter_of : PeriodFilter → PlainPeriodFilter
period_filter_of Any = call.Any
period_filter_of Without = call.Without
period_filter_of (Text period) = call.Exactly (string_bytes period)
