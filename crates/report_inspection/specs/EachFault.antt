-- Every fault of a report, where a reading of it stops at the first.
-- That each check of a reading is made, whatever the others say, is the project's own.
use Rattle.std.specs.Prelude.{ℕ, List, [], ◌∷◌, ◌++◌, codes, Option, None, Some, Result, Ok, Err, option_and_then, option_map, unwrap_or}
use Rattle.std.specs.List.{filter_map, flat_map}
use Rattle.std.specs.Option.{option_map_or, option_flatten}
use Rattle.serde_json.specs.Data.{Data, object}
use Rattle.serde_json.specs.Find.{get, as_object}
use Rattle.filing_model.specs.Common.Text.{Text}
use Rattle.filing_model.specs.Common.Try.{◌>>=◌, map_err}
use Rattle.filing_model.specs.Oim.Facts.{Fact, Names, Table}
use Rattle.filing_model.specs.Reading.JsonText.{json_of, without_mark, pairs, an_object}
use Rattle.filing_model.specs.Reading.ReadFact.{raw_fact_of}
use Rattle.filing_model.specs.Reading.ReadReport.{ReportFault, NotJson, WrongShape, BadFact, allowed_of_features, whole_text_of}
use Rattle.filing_model.specs.declared.duplicates.Allowed.{Allowed}
use Rattle.filing_model.specs.declared.duplicates.Allowed.TheVariants.{All}
use Rattle.filing_model.specs.declared.faults.Trouble.{Trouble}
use Rattle.oim_report.specs.Readings.{declared_names, document_info_at, fitted_of}

-- the fault of a reading, where it has one
abbrev pub fault_in : {A E : Type 0} → Result A E → List E
fault_in (Ok x) = []
fault_in (Err fault) = fault ∷ []

-- what was read, where nothing is wrong with it
abbrev pub value_in : {A E : Type 0} → Result A E → Option A
value_in (Ok x) = Some x
value_in (Err fault) = None

-- ---- `documentInfo`

-- where it is an object
abbrev pub info_in : Data → Option Data
info_in d = option_and_then an_object (get (codes "documentInfo") d)

abbrev pub allowed_declared : Data → Result Allowed ReportFault
allowed_declared info = allowed_of_features (get (codes "features") info)

-- what is wrong with what it declares
abbrev pub info_faults : Table → Data → List ReportFault
info_faults table info =
    fault_in (allowed_declared info) ++ (fault_in (declared_names table info) ++ fault_in (whole_text_of info))

-- the names by which facts are judged: those that it binds, whatever else is wrong.
-- Where they are not known, no fact is fitted to them
abbrev pub names_known : Table → Data → Option Names
names_known table d = option_and_then (λ info. value_in (declared_names table info)) (info_in d)

-- the declared value, whatever else is wrong; all, where it cannot be read
abbrev pub allowed_known : Data → Allowed
allowed_known d = unwrap_or (option_and_then (λ info. value_in (allowed_declared info)) (info_in d)) All

-- ---- facts

-- the members of what stands at `facts`; none where that is no object
abbrev pub members_of : Option Data → List (Text × Data)
members_of facts = option_map_or pairs (option_and_then as_object facts) []

abbrev pub fact_members : Data → List (Text × Data)
fact_members d = members_of (get (codes "facts") d)

-- that `facts` is there and no object
abbrev pub shape_fault : Option Data → List ReportFault
shape_fault None = []
shape_fault (Some (object ms)) = []
shape_fault (Some d) = WrongShape ∷ []

-- a fact alone, by these names. Where none are known, it is read and not fitted
abbrev pub fact_judged : Option Names → Data → Result (Option Fact) Trouble
fact_judged None d = do
  raw ← raw_fact_of d
  Ok None
fact_judged (Some names) d = do
  raw ← raw_fact_of d
  fact ← fitted_of names raw
  Ok (Some fact)

-- what is wrong with the fact of a member
abbrev pub member_faults : Option Names → Text × Data → List ReportFault
member_faults names member = fault_in (map_err (BadFact member.0) (fact_judged names member.1))

abbrev pub fact_faults : Option Names → List (Text × Data) → List ReportFault
fact_faults names members = flat_map (member_faults names) members

-- the fact of a member, where it can be read and fitted
abbrev pub member_fact : Option Names → Text × Data → Option (Text × Fact)
member_fact names member =
    option_map (λ fact. (member.0, fact)) (option_flatten (value_in (fact_judged names member.1)))

abbrev pub facts_read : Option Names → List (Text × Data) → List (Text × Fact)
facts_read names members = filter_map (member_fact names) members

-- ---- the whole

-- in the order of a reading: `documentInfo`, what it declares, the shape of `facts`,
-- and each refused fact in byte order of the identifiers
abbrev pub report_faults : Table → Data → List ReportFault
report_faults table d = fault_in (document_info_at (get (codes "documentInfo") d))
    ++ (option_map_or (info_faults table) (info_in d) []
    ++ (shape_fault (get (codes "facts") d) ++ fact_faults (names_known table d) (fact_members d)))

-- the value of a text after one byte order mark, where it is JSON
abbrev pub data_in : List ℕ → Option Data
data_in bytes = json_of (without_mark bytes)

-- every fault of a text
abbrev pub faults_in : Table → List ℕ → List ReportFault
faults_in table bytes = option_map_or (report_faults table) (data_in bytes) (NotJson ∷ [])

-- of the text of a report, whatever is wrong with it: the members that stand for facts, the facts among them,
-- and the declared value
abbrev pub members_in : List ℕ → List (Text × Data)
members_in bytes = option_map_or fact_members (data_in bytes) []

abbrev pub facts_in : Table → List ℕ → List (Text × Fact)
facts_in table bytes = option_map_or (λ d. facts_read (names_known table d) (fact_members d)) (data_in bytes) []

abbrev pub allowed_in : List ℕ → Allowed
allowed_in bytes = option_map_or allowed_known (data_in bytes) All
