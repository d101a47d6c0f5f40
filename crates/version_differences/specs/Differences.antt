-- What differs between two repositories, as a list of lines. All of it is the project's own.
use Rattle.std.specs.Prelude.{⊤, cond, List, [], ◌∷◌, ◌++◌, map, Option, Some, None}
use Rattle.std.specs.List.{flat_map}
use Rattle.filing_model.specs.Common.Text.{Text}
use Rattle.filing_model.specs.Common.TextMap.{TextMap, from_entries, keys}
use Rattle.filing_model.specs.Oim.Facts.{Fact}
use Rattle.filing_model.specs.Oim.Reports.{Report}
use Rattle.filing_model.specs.Sessions.Repository.{Repository, report_at, fact_in, fact_at}
use Rattle.filing_model.specs.declared.duplicates.Allowed.{Allowed}
use Rattle.filing_laws.specs.Histories.SameReplies.{allowed_eq, fact_eq}

-- a report that is new, or is no longer there; a report's declared value, or a fact of it, that was one and is another;
-- a fact of it that is new, or is no longer there
pub data Line : Type 0 where
  NewReport : Text → Line
  NoReport : Text → Line
  Declared : Text → Allowed → Allowed → Line
  Added : Text → Text → Fact → Line
  Removed : Text → Text → Fact → Line
  Changed : Text → Text → Fact → Fact → Line

abbrev pub marked : List Text → List (Text × ⊤)
marked ks = map (λ key. (key, tt)) ks

-- the keys that are in either map, in byte order, each once
abbrev pub keys_of_either : {X Y : Type 0} → TextMap X → TextMap Y → List Text
keys_of_either m n = keys (from_entries (marked (keys m ++ keys n)))

-- ---- of one identifier, of one report, of all

abbrev pub fact_lines : Text → Text → Option Fact → Option Fact → List Line
fact_lines name id None None = []
fact_lines name id None (Some to) = Added name id to ∷ []
fact_lines name id (Some from) None = Removed name id from ∷ []
fact_lines name id (Some from) (Some to) = cond (fact_eq from to) [] (Changed name id from to ∷ [])

abbrev pub declared_lines : Text → Allowed → Allowed → List Line
declared_lines name from to = cond (allowed_eq from to) [] (Declared name from to ∷ [])

-- a report that is in one of them alone is named, and nothing is told of its facts
abbrev pub report_lines : Text → Option Report → Option Report → List Line
report_lines name None None = []
report_lines name None (Some to) = NewReport name ∷ []
report_lines name (Some from) None = NoReport name ∷ []
report_lines name (Some from) (Some to) =
    declared_lines name from.allowed to.allowed
    ++ flat_map (λ id. fact_lines name id (fact_in from id) (fact_in to id)) (keys_of_either from.facts to.facts)

-- the lines of what differs under a name
abbrev pub lines_at : Repository → Repository → Text → List Line
lines_at from to name = report_lines name (report_at from name) (report_at to name)

-- of what differs at an identifier of it
abbrev pub lines_at_id : Repository → Repository → Text → Text → List Line
lines_at_id from to name id = fact_lines name id (fact_at from name id) (fact_at to name id)

-- in byte order of names and then of identifiers
abbrev pub difference : Repository → Repository → List Line
difference from to = flat_map (lines_at from to) (keys_of_either from.reports to.reports)
