-- The plain repository: a count, and the reports by their names. It has no index, no sharing and no stamps. The project's own.
use Rattle.std.specs.Prelude.{ℕ, ◌+◌, Option, Some, None, option_and_then}
use Rattle.std.specs.Option.{option_map_or}
use Rattle.filing_model.specs.Common.Text.{Text}
use Rattle.filing_model.specs.Common.TextMap.{TextMap, empty, get, insert, remove}
use Rattle.filing_model.specs.Oim.Facts.{Fact}
use Rattle.filing_model.specs.Oim.Reports.{Report}
use Rattle.filing_model.specs.Reading.DeclaredValue.{report_declaring}
use Rattle.filing_model.specs.declared.duplicates.Allowed.{Allowed}

-- how many loads and commits were accepted, and what they made
pub record Repository : Type 0 where
  pub count : ℕ
  pub reports : TextMap Report

-- before the first load
abbrev pub nothing : Repository
nothing = record { count = 0; reports = empty }

abbrev pub report_at : Repository → Text → Option Report
report_at c name = get c.reports name

abbrev pub fact_in : Report → Text → Option Fact
fact_in r id = get r.facts id

abbrev pub fact_at : Repository → Text → Text → Option Fact
fact_at c name id = option_and_then (λ r. fact_in r id) (report_at c name)

-- the report with this fact under the identifier, or with none
abbrev pub with_fact : Report → Text → Option Fact → Report
with_fact r id (Some fact) = record r { facts = insert r.facts id fact }
with_fact r id None = record r { facts = remove r.facts id }

-- the repository with this report under the name
abbrev pub with_report_at : Repository → Text → Report → Repository
with_report_at c name r = record c { reports = insert c.reports name r }

-- the repository with that change in its report; the same where the report is not there
abbrev pub with_fact_at : Repository → Text → Text → Option Fact → Repository
with_fact_at c name id fact = option_map_or (λ r. with_report_at c name (with_fact r id fact)) (report_at c name) c

-- the repository in whose report this value is declared
abbrev pub declaring_at : Repository → Text → Allowed → Repository
declaring_at c name value = option_map_or (λ r. with_report_at c name (report_declaring r value)) (report_at c name) c

-- the repository with one report more, which counts
abbrev pub with_report : Repository → Text → Report → Repository
with_report c name r = record { count = c.count + 1; reports = insert c.reports name r }
