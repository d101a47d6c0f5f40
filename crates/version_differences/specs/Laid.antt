-- A difference laid over a repository. The project's own.
use Rattle.std.specs.Prelude.{◌≡◌, List, [], ◌∷◌, Some, None}
use Rattle.std.specs.List.{AllByRecursion}
use Rattle.filing_model.specs.Common.Text.{Text}
use Rattle.filing_model.specs.Oim.Reports.{Report}
use Rattle.filing_model.specs.Sessions.Repository.{Repository, report_at, fact_at, with_fact_at, declaring_at}
use Rattle.version_differences.specs.Differences.{Line, NewReport, NoReport, Declared, Added, Removed, Changed, difference}

-- the repository with what a line tells of a report that it has. A report that is new or gone is only named
abbrev pub with_line : Repository → Line → Repository
with_line c (NewReport name) = c
with_line c (NoReport name) = c
with_line c (Declared name from to) = declaring_at c name to
with_line c (Added name id fact) = with_fact_at c name id (Some fact)
with_line c (Removed name id fact) = with_fact_at c name id None
with_line c (Changed name id from to) = with_fact_at c name id (Some to)

abbrev pub with_lines : Repository → List Line → Repository
with_lines c [] = c
with_lines c (line ∷ lines) = with_lines (with_line c line) lines

-- the report has the prefixes of the one, and the facts and the declared value of the other
pub record IsMadeTo (made from to : Report) : Type 0 where
  pub names : made.names ≡ from.names
  pub allowed : made.allowed ≡ to.allowed
  pub facts : made.facts ≡ to.facts

-- laid over the one repository, the difference makes of each report that both have that of the other
abbrev pub EachDifferenceMakesTheOther : Type 0
EachDifferenceMakesTheOther = (from to : Repository) (name : Text) (r s : Report) → report_at from name ≡ Some r
    → report_at to name ≡ Some s
    → (made : Report) × (report_at (with_lines from (difference from to)) name ≡ Some made) × IsMadeTo made r s

-- a line tells what is in the one and not in the other
abbrev pub IsToldOf : Repository → Repository → Line → Type 0
IsToldOf from to (NewReport name) = (r : Report) × (report_at from name ≡ None) × (report_at to name ≡ Some r)
IsToldOf from to (NoReport name) = (r : Report) × (report_at from name ≡ Some r) × (report_at to name ≡ None)
IsToldOf from to (Declared name a b) =
    (r : Report) × (s : Report) × (report_at from name ≡ Some r) × (report_at to name ≡ Some s)
    × (r.allowed ≡ a) × (s.allowed ≡ b) × (a ≡ b → ⊥)
IsToldOf from to (Added name id fact) = (fact_at from name id ≡ None) × (fact_at to name id ≡ Some fact)
IsToldOf from to (Removed name id fact) = (fact_at from name id ≡ Some fact) × (fact_at to name id ≡ None)
IsToldOf from to (Changed name id f g) = (fact_at from name id ≡ Some f) × (fact_at to name id ≡ Some g) × (f ≡ g → ⊥)

abbrev pub EachLineIsToldOfBoth : Type 0
EachLineIsToldOfBoth = (from to : Repository) → AllByRecursion (IsToldOf from to) (difference from to)
