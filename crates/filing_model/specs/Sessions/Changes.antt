-- Changes of reports: what one puts, removes and declares, what it makes of a repository, and the least cell that it makes disallowed. The project's own.
use Rattle.std.specs.Prelude.{◌+◌, List, [], ◌∷◌, map, Option, Some, None, option_map, option_and_then, unwrap_or}
use Rattle.std.specs.List.{filter, filter_map}
use Rattle.std.specs.Option.{option_map_or, option_or}
use Rattle.filing_model.specs.Common.Text.{Text}
use Rattle.filing_model.specs.Common.TextMap.{TextMap, empty, get, insert}
use Rattle.filing_model.specs.Oim.Dimensions.{Dims}
use Rattle.filing_model.specs.Oim.Facts.{Fact}
use Rattle.filing_model.specs.Oim.Reports.{Report}
use Rattle.filing_model.specs.Sessions.Repository.{Repository, report_at, with_fact, with_report_at}
use Rattle.filing_model.specs.Reading.DeclaredValue.{report_declaring}
use Rattle.filing_model.specs.Oim.Duplicates.{facts_of, is_disallowed, least_dims, least_disallowed}
use Rattle.filing_model.specs.declared.duplicates.Allowed.{Allowed}

-- of one report: the value that it is to declare, if any, and by identifier the fact that is put there, or none where it is removed
pub record ReportChange : Type 0 where
  pub declared : Option Allowed
  pub facts : TextMap (Option Fact)

abbrev pub no_change : ReportChange
no_change = record { declared = None; facts = empty }

-- by report
abbrev pub Change : Type 0
Change = TextMap ReportChange

abbrev pub change_in : Change → Text → ReportChange
change_in change name = unwrap_or (get change name) no_change

abbrev pub change_at : Change → Text → Text → Option (Option Fact)
change_at change name id = get (change_in change name).facts id

abbrev pub declared_in : Change → Text → Option Allowed
declared_in change name = (change_in change name).declared

-- the change with a fact put, or removed, at an identifier
abbrev pub with_change : Change → Text → Text → Option Fact → Change
with_change change name id fact =
    insert change name (record (change_in change name) { facts = insert (change_in change name).facts id fact })

-- the change with a value declared
abbrev pub with_declared : Change → Text → Allowed → Change
with_declared change name value = insert change name (record (change_in change name) { declared = Some value })

-- ---- a change laid over a repository

-- the report with a fact put, or removed, at each of these identifiers
abbrev pub with_facts : List (Text × Option Fact) → Report → Report
with_facts [] r = r
with_facts (e ∷ es) r = with_fact (with_facts es r) e.0 e.1

-- the report that declares this value, or what it declared before
abbrev pub declaring_if : Option Allowed → Report → Report
declaring_if declared r = option_map_or (report_declaring r) declared r

abbrev pub changed : ReportChange → Report → Report
changed change r = with_facts change.facts.entries (declaring_if change.declared r)

-- the repository with this change of one report; the same where the report is not there
abbrev pub changed_at : Repository → Text × ReportChange → Repository
changed_at c e = option_map_or (λ r. with_report_at c e.0 (changed e.1 r)) (report_at c e.0) c

-- the repository with the change of each of these reports
abbrev pub with_changes : List (Text × ReportChange) → Repository → Repository
with_changes [] c = c
with_changes (e ∷ es) c = changed_at (with_changes es c) e

-- the repository with all that a change puts, removes and declares; its count stays
abbrev pub laid_over : Change → Repository → Repository
laid_over change c = with_changes change.entries c

-- the repository with a change laid over it, which counts
abbrev pub after_change : Change → Repository → Repository
after_change change c = record (laid_over change c) { count = c.count + 1 }

-- ---- the least disallowed cell

-- the facts that are put into one report; a removal puts none
abbrev pub new_facts : ReportChange → List Fact
new_facts change = filter_map (λ e. e.1) change.facts.entries

-- the least dimensions of these facts whose cell the report does not allow
abbrev pub least_among : List Fact → Report → Option Dims
least_among facts r =
    least_dims (filter (is_disallowed r.allowed (facts_of r.facts.entries)) (map (λ f. f.dims) facts))

-- of all cells where a value was declared, else of those of the new facts
abbrev pub least_changed : ReportChange → Report → Option Dims
least_changed change r =
    option_map_or (λ value. least_disallowed r.allowed r.facts.entries) change.declared
    (least_among (new_facts change) r)

-- what is found of the first element of which something is
abbrev pub find_map : {A B : Type 0} → (A → Option B) → List A → Option B
find_map find [] = None
find_map find (x ∷ xs) = option_or (find x) (find_map find xs)

-- the least changed report with such a cell that is disallowed, with the least such cell
abbrev pub first_disallowed : Repository → Change → Option (Text × Dims)
first_disallowed c change =
    find_map (λ e. option_map (λ dims. (e.0, dims))
    (option_and_then (least_changed e.1) (report_at c e.0))) change.entries
