-- Where two repositories may differ: names of reports, and identifiers in them. All of it is the project's own.
use Rattle.std.specs.Prelude.{◌≡◌, ⊤, Bool, Some, None, is_some, unwrap_or}
use Rattle.filing_model.specs.Common.Text.{Text}
use Rattle.filing_model.specs.Common.TextMap.{TextMap, empty, get, insert}
use Rattle.filing_model.specs.Oim.Reports.{Report}
use Rattle.filing_model.specs.Sessions.Repository.{Repository, report_at, fact_in}

abbrev pub Ids : Type 0
Ids = TextMap ⊤

-- by the name of a report, identifiers in it
abbrev pub Places : Type 0
Places = TextMap Ids

abbrev pub ids_at : Places → Text → Ids
ids_at places name = unwrap_or (get places name) empty

abbrev pub is_place : Places → Text → Text → Bool
is_place places name id = is_some (get (ids_at places name) id)

-- the places with one name more, or with one identifier more
abbrev pub with_name : Places → Text → Places
with_name places name = insert places name (ids_at places name)

abbrev pub with_place : Places → Text → Text → Places
with_place places name id = insert places name (insert (ids_at places name) id tt)

-- each fact of the report of this name that is not the same in both stands at one of these identifiers
abbrev pub CoverFacts : Ids → Repository → Repository → Text → Type 0
CoverFacts ids from to name = (id : Text) (r s : Report) → report_at from name ≡ Some r → report_at to name ≡ Some s
    → get ids id ≡ None → fact_in r id ≡ fact_in s id

-- each report that either repository has is named there, with each fact of it that is not the same in both
pub record CoverDifference (places : Places) (from to : Repository) : Type 0 where
  pub names : (name : Text) → get places name ≡ None → (report_at from name ≡ None) × (report_at to name ≡ None)
  pub facts : (name : Text) → CoverFacts (ids_at places name) from to name
