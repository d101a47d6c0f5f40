-- The facts of a report, as an iterator gives them. The project's own.
use Rattle.std.specs.Prelude.{◌≡◌, Option}
use Rattle.std.specs.Borrow.{Bor}
use Rattle.std.specs.Iterator.{AlwaysYields}
use Rattle.filing_model.specs.Common.Text.{Text}
use Rattle.filing_model.specs.Oim.Facts.{Fact}
use Rattle.filing_model.specs.Oim.Reports.{Report}

-- an identifier with its fact, behind references
abbrev pub entry_seen : Bor Text × Bor Fact → Text × Fact
entry_seen entry = (entry.0.now, entry.1.now)

-- the report has this info, and an iterator gives its facts in whatever way it is called to its end
pub record IsReportOf {S : Type 0} (steps : S → Option (Bor Text × Bor Fact) → S → Type 0) (info : Text) (entries : S)
    (report : Report) : Type 0 where
  pub has_info : report.info ≡ info
  pub gives_facts : AlwaysYields steps entry_seen entries report.facts.entries
