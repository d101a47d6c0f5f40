-- The period filter of a query, as code borrows it. The project's own.
use Rattle.filing_model.specs.Sessions.Calls as call
use Rattle.filing_model.specs.Sessions.Calls.{PeriodFilter as PlainPeriodFilter}
use Rattle.oim_fact.specs.declared.period_filter_ref.PeriodFilterRef.{PeriodFilterRef}
use Rattle.oim_fact.specs.declared.period_filter_ref.PeriodFilterRef.TheVariants as asked

-- the period filter, by the bytes of its period
abbrev pub period_filter_of : PeriodFilterRef → PlainPeriodFilter
period_filter_of asked.Any = call.Any
period_filter_of asked.Without = call.Without
period_filter_of (asked.Text text) = call.Exactly text.now
