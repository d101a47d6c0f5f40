-- The first fault of a report is the one that a reading is told.
use Rattle.std.proofs.Common.{◌≡◌, ◌∙◌, ap, sym, subst, refl, ℕ, T, Bool, true, false, cond, not, nat_lt, List, [], ◌∷◌, ◌++◌, length, Option, None, Some, option_map, option_and_then, unwrap_or, is_some, is_ok, Result, Ok, Err, codes, Less, Equal, Greater}
use Rattle.std.specs.Ordering.{match_ordering}
use Rattle.std.specs.Prelude.{IfSome}
use Rattle.std.specs.List.{cons_option}
use Rattle.std.specs.Option.{option_map_or, option_flatten, ok_or}
use Rattle.std.specs.FinMap.Entries.{is_sorted}
use Rattle.serde_json.specs.Data.{Data, null, boolean, number, string, array, object, Members, no_members, member}
use Rattle.serde_json.specs.Find.{get, get_member, as_object}
use Rattle.serde_json.specs.Read.{read}
use Rattle.filing_model.specs.Common.Text.{Text, text_cmp}
use Rattle.filing_model.specs.Common.TextMap.{empty, from_entries}
use Rattle.filing_model.specs.Common.Try.{◌>>=◌, each, map_err}
use Rattle.filing_model.specs.Oim.Facts.{Fact, Names, RawFact, Table, fit_of}
use Rattle.filing_model.specs.Oim.Reports.{Report}
use Rattle.filing_model.specs.Reading.JsonText.{json_of, without_mark, pairs, an_object}
use Rattle.filing_model.specs.Reading.ReadFact.{raw_fact_of}
use Rattle.filing_model.specs.Reading.ReadReport.{ReportFault, NotJson, WrongDocumentType, BadFact, entry_of, facts_of, read_report_of, report_of, whole_text_of}
use Rattle.filing_model.specs.declared.duplicates.Allowed.{Allowed}
use Rattle.filing_model.specs.declared.duplicates.Allowed.TheVariants.{All}
use Rattle.filing_model.specs.declared.faults.FactFault.{FactFault}
use Rattle.filing_model.specs.declared.faults.Trouble.{Trouble}
use Rattle.filing_model.specs.declared.faults.Trouble.TheVariants.{Fit}
use Rattle.filing_model.proofs.Common.MapsOfLists.{from_entries-sorted}
use Rattle.filing_model.proofs.Reading.ReadValues.{IsRead, AreMembersRead, IsRead-read}
use Rattle.oim_report.specs.Readings.{Declaration, declared_names, document_info_at, has_document_type, of_declared, report_of_members, fitted_of}
use Rattle.oim_report.proofs.FactList.{sorted_facts}
use Rattle.oim_report.proofs.ReportsByParts.{report_by_members}
use Rattle.script_reasons.specs.ToldFacts.{is_refused, is_refused_as}
use Rattle.report_inspection.specs.EachFault.{fault_in, value_in, allowed_declared, allowed_known, data_in, fact_faults, fact_judged, fact_members, facts_read, info_faults, names_known, report_faults, shape_fault}
use Rattle.report_inspection.specs.FaultLaws.{BeginWith, FirstFaultIsTheReadings, FactsHaveFaultsWhereRefused}

-- ---- one fact

-- what is told of a fact that was read or refused so
abbrev OneTells : Text → Result (Option Fact) Trouble → Result (Text × Fact) ReportFault → Type 0
OneTells id judged (Ok e) =
    (fault_in (map_err (BadFact id) judged) ≡ []) × (option_map (λ fact. (id, fact)) (option_flatten (value_in judged)) ≡ Some e)
OneTells id judged (Err fault) = fault_in (map_err (BadFact id) judged) ≡ fault ∷ []

fitted_tells : (id : Text) (r : Result Fact FactFault)
    → OneTells id (map_err Fit r >>= λ fact. Ok (Some fact)) (map_err (λ fault. BadFact id (Fit fault)) r >>= λ fact. Ok (id, fact))
fitted_tells id (Ok fact) = (refl, refl)
fitted_tells id (Err fault) = refl

raw_tells : (names : Names) (id : Text) (r : Result RawFact Trouble)
    → OneTells id (r >>= λ raw. fitted_of names raw >>= λ fact. Ok (Some fact))
    (map_err (BadFact id) r >>= λ raw. map_err (λ fault. BadFact id (Fit fault)) (fit_of names raw) >>= λ fact. Ok (id, fact))
raw_tells names id (Ok raw) = fitted_tells id (fit_of names raw)
raw_tells names id (Err trouble) = refl

-- ---- all facts

abbrev EachTells : Names → List (Text × Data) → Result (List (Text × Fact)) ReportFault → Type 0
EachTells names ms (Ok es) = (fact_faults (Some names) ms ≡ []) × (facts_read (Some names) ms ≡ es)
EachTells names ms (Err fault) = (later : List ReportFault) × (fact_faults (Some names) ms ≡ fault ∷ later)

more_tells : (names : Names) (m : Text × Data) (ms : List (Text × Data)) (r : Result (Text × Fact) ReportFault)
    (rs : Result (List (Text × Fact)) ReportFault) → OneTells m.0 (fact_judged (Some names) m.1) r → EachTells names ms rs
    → EachTells names (m ∷ ms) (r >>= λ e. rs >>= λ es. Ok (e ∷ es))
more_tells names m ms (Err fault) rs one rest = (fact_faults (Some names) ms, ap (λ fs. fs ++ fact_faults (Some names) ms) one)
more_tells names m ms (Ok e) (Err fault) one rest = (rest.0, λ i. one.0 i ++ rest.1 i)
more_tells names m ms (Ok e) (Ok es) one rest = ((λ i. one.0 i ++ rest.0 i), (λ i. cons_option (one.1 i) (rest.1 i)))

each_tells : (names : Names) (ms : List (Text × Data)) → EachTells names ms (each (entry_of names) ms)
each_tells names [] = (refl, refl)
each_tells names (m ∷ ms) =
    more_tells names m ms (entry_of names m) (each (entry_of names) ms) (raw_tells names m.0 (raw_fact_of m.1)) (each_tells names ms)

-- ---- a report by its parts

abbrev members_at : Option Data → List (Text × Data)
members_at facts = option_map_or pairs (option_and_then as_object facts) []

abbrev faults_with : Result Allowed ReportFault → Result Names ReportFault → Result Text ReportFault → Option Data → List ReportFault
faults_with a n t facts = (fault_in a ++ (fault_in n ++ fault_in t)) ++ (shape_fault facts ++ fact_faults (value_in n) (members_at facts))

abbrev ok_declaration : Text → Names → Allowed → Result Declaration ReportFault
ok_declaration info names allowed = Ok (record { info = info; names = names; allowed = allowed })

abbrev reading_with : Result Allowed ReportFault → Result Names ReportFault → Result Text ReportFault → Option Data → Result Report ReportFault
reading_with a n t facts = (a >>= λ allowed. n >>= λ names. t >>= λ info. ok_declaration info names allowed)
    >>= λ declared. facts_of declared.names facts >>= λ facts. Ok (of_declared declared facts)

abbrev PartsTell : Result Allowed ReportFault → Result Names ReportFault → Result Text ReportFault → Option Data → Result Report ReportFault → Type 0
PartsTell a n t facts (Ok r) = (faults_with a n t facts ≡ []) × (facts_read (value_in n) (members_at facts) ≡ r.facts.entries)
    × (unwrap_or (value_in a) All ≡ r.allowed)
PartsTell a n t facts (Err fault) = (later : List ReportFault) × (faults_with a n t facts ≡ fault ∷ later)

facts_tell : (a : Allowed) (n : Names) (t : Text) (ms : Members) (r : Result (List (Text × Fact)) ReportFault)
    → each (entry_of n) (pairs ms) ≡ r → T (is_sorted text_cmp (pairs ms)) → EachTells n (pairs ms) r
    → PartsTell (Ok a) (Ok n) (Ok t) (Some (object ms))
    ((r >>= λ entries. Ok (from_entries entries)) >>= λ facts. Ok (of_declared (record { info = t; names = n; allowed = a }) facts))
facts_tell a n t ms (Err fault) is sorted tells = tells
facts_tell a n t ms (Ok es) is sorted tells =
    (tells.0, tells.1 ∙ sym (from_entries-sorted es (sorted_facts n (pairs ms) es is sorted)), refl)

parts_tell : (a : Result Allowed ReportFault) (n : Result Names ReportFault) (t : Result Text ReportFault) (facts : Option Data)
    → T (is_sorted text_cmp (members_at facts)) → PartsTell a n t facts (reading_with a n t facts)
parts_tell (Err fault) n t facts sorted = (_, refl)
parts_tell (Ok a) (Err fault) t facts sorted = (_, refl)
parts_tell (Ok a) (Ok n) (Err fault) facts sorted = (_, refl)
parts_tell (Ok a) (Ok n) (Ok t) None sorted = (refl, refl, refl)
parts_tell (Ok a) (Ok n) (Ok t) (Some null) sorted = (_, refl)
parts_tell (Ok a) (Ok n) (Ok t) (Some (boolean b)) sorted = (_, refl)
parts_tell (Ok a) (Ok n) (Ok t) (Some (number m)) sorted = (_, refl)
parts_tell (Ok a) (Ok n) (Ok t) (Some (string s)) sorted = (_, refl)
parts_tell (Ok a) (Ok n) (Ok t) (Some (array ds)) sorted = (_, refl)
parts_tell (Ok a) (Ok n) (Ok t) (Some (object ms)) sorted =
    facts_tell a n t ms (each (entry_of n) (pairs ms)) refl sorted (each_tells n (pairs ms))

-- ---- by its members

abbrev known_at : Table → Option Data → Option Names
known_at table info = option_and_then (λ info. value_in (declared_names table info)) (option_and_then an_object info)

abbrev allowed_at : Option Data → Allowed
allowed_at info = unwrap_or (option_and_then (λ info. value_in (allowed_declared info)) (option_and_then an_object info)) All

abbrev faults_at : Table → Option Data → Option Data → List ReportFault
faults_at table info facts = fault_in (document_info_at info)
    ++ (option_map_or (info_faults table) (option_and_then an_object info) []
    ++ (shape_fault facts ++ fact_faults (known_at table info) (members_at facts)))

abbrev MembersTell : Table → Option Data → Option Data → Result Report ReportFault → Type 0
MembersTell table info facts (Ok r) = (faults_at table info facts ≡ []) × (facts_read (known_at table info) (members_at facts) ≡ r.facts.entries)
    × (allowed_at info ≡ r.allowed)
MembersTell table info facts (Err fault) = (later : List ReportFault) × (faults_at table info facts ≡ fault ∷ later)

abbrev typed : Bool → Data → Result Data ReportFault
typed b x = cond b (Ok x) (Err WrongDocumentType)

abbrev declared_from : Table → Data → Result Declaration ReportFault
declared_from table x = allowed_declared x >>= λ allowed. declared_names table x >>= λ names. whole_text_of x
    >>= λ info. ok_declaration info names allowed

abbrev ObjectTells : Table → Data → Option Data → Bool → Result Report ReportFault → Type 0
ObjectTells table x facts b (Ok r) =
    (fault_in (typed b x) ++ (info_faults table x ++ (shape_fault facts ++ fact_faults (value_in (declared_names table x)) (members_at facts))) ≡ [])
    × (facts_read (value_in (declared_names table x)) (members_at facts) ≡ r.facts.entries)
    × (unwrap_or (value_in (allowed_declared x)) All ≡ r.allowed)
ObjectTells table x facts b (Err fault) = (later : List ReportFault)
    × (fault_in (typed b x) ++ (info_faults table x ++ (shape_fault facts ++ fact_faults (value_in (declared_names table x)) (members_at facts)))
    ≡ fault ∷ later)

-- an object's type is read first, and then its parts
object_tells : (table : Table) (x : Data) (facts : Option Data) (b : Bool) → T (is_sorted text_cmp (members_at facts))
    → ObjectTells table x facts b
    ((typed b x >>= declared_from table) >>= λ declared. facts_of declared.names facts >>= λ facts. Ok (of_declared declared facts))
object_tells table x facts false sorted = (_, refl)
object_tells table x facts true sorted = parts_tell (allowed_declared x) (declared_names table x) (whole_text_of x) facts sorted

members_tell : (table : Table) (info facts : Option Data) → T (is_sorted text_cmp (members_at facts))
    → MembersTell table info facts (report_of_members table info facts)
members_tell table None facts sorted = (_, refl)
members_tell table (Some null) facts sorted = (_, refl)
members_tell table (Some (boolean b)) facts sorted = (_, refl)
members_tell table (Some (number n)) facts sorted = (_, refl)
members_tell table (Some (string s)) facts sorted = (_, refl)
members_tell table (Some (array ds)) facts sorted = (_, refl)
members_tell table (Some (object ms)) facts sorted = object_tells table (object ms) facts (has_document_type (object ms)) sorted

-- ---- of a text

member_read : (name : Text) (ms : Members) → AreMembersRead ms → IfSome (get_member name ms) IsRead
member_read name no_members h = tt
member_read name (member key d ms) h =
    elim (text_cmp name key) as (λ o. IfSome (match_ordering o (get_member name ms) (Some d) (get_member name ms)) IsRead) [
      | Less ↦ member_read name ms h.1
      | Equal ↦ h.0
      | Greater ↦ member_read name ms h.1
    ]

rising_at : (o : Option Data) → IfSome o IsRead → T (is_sorted text_cmp (members_at o))
rising_at None h = tt
rising_at (Some null) h = tt
rising_at (Some (boolean b)) h = tt
rising_at (Some (number n)) h = tt
rising_at (Some (string s)) h = tt
rising_at (Some (array ds)) h = tt
rising_at (Some (object ms)) h = h.0

got_read : (name : Text) (d : Data) → IsRead d → IfSome (get name d) IsRead
got_read name null h = tt
got_read name (boolean b) h = tt
got_read name (number n) h = tt
got_read name (string s) h = tt
got_read name (array ds) h = tt
got_read name (object ms) h = member_read name ms h.1

data_tells : (table : Table) (d : Data) → IsRead d
    → MembersTell table (get (codes "documentInfo") d) (get (codes "facts") d) (report_of table d)
data_tells table d h =
    subst (MembersTell table (get (codes "documentInfo") d) (get (codes "facts") d)) (sym (report_by_members table d))
    (members_tell table (get (codes "documentInfo") d) (get (codes "facts") d) (rising_at (get (codes "facts") d) (got_read (codes "facts") d h)))

abbrev TextTells : Table → Option Data → Result Report ReportFault → Type 0
TextTells table o (Ok r) = (option_map_or (report_faults table) o (NotJson ∷ []) ≡ [])
    × (option_map_or (λ d. facts_read (names_known table d) (fact_members d)) o [] ≡ r.facts.entries)
    × (option_map_or allowed_known o All ≡ r.allowed)
TextTells table o (Err fault) = (later : List ReportFault) × (option_map_or (report_faults table) o (NotJson ∷ []) ≡ fault ∷ later)

some_tells : (table : Table) (d : Data) (r : Result Report ReportFault)
    → MembersTell table (get (codes "documentInfo") d) (get (codes "facts") d) r → TextTells table (Some d) r
some_tells table d (Ok r) h = h
some_tells table d (Err fault) h = h

text_tells : (table : Table) (o : Option Data) → IfSome o IsRead → TextTells table o (ok_or o NotJson >>= report_of table)
text_tells table None h = ([], refl)
text_tells table (Some d) h = some_tells table d (report_of table d) (data_tells table d h)

if_read : (b : Bool) (text : List ℕ) → IfSome (cond b (read text) None) IsRead
if_read false text = tt
if_read true text = elim (read text) as (λ o. read text ≡ o → IfSome o IsRead) [
  | None ↦ λ _. tt
  | Some d ↦ λ is. IsRead-read text d is
] refl

json_read : (bytes : List ℕ) → IfSome (json_of bytes) IsRead
unfolding json_of
json_read bytes = if_read _ bytes

begun : (table : Table) (bytes : List ℕ) (r : Result Report ReportFault) → TextTells table (data_in bytes) r → BeginWith table bytes r
begun table bytes (Ok r) h = h
begun table bytes (Err fault) h = h

pub first_fault_is_the_readings : FirstFaultIsTheReadings
first_fault_is_the_readings table bytes =
    begun table bytes (read_report_of table bytes) (text_tells table (data_in bytes) (json_read (without_mark bytes)))

-- ---- where a fact has a fault

fitted_refused : (r : Result Fact FactFault)
    → nat_lt 0 (length (fault_in (map_err Fit r >>= λ fact. Ok (Some fact)))) ≡ not (is_ok r)
fitted_refused (Ok fact) = refl
fitted_refused (Err fault) = refl

raw_refused : (names : Names) (r : Result RawFact Trouble)
    → nat_lt 0 (length (fault_in (r >>= λ raw. fitted_of names raw >>= λ fact. Ok (Some fact)))) ≡ is_refused_as (Some names) r
raw_refused names (Ok raw) = fitted_refused (fit_of names raw)
raw_refused names (Err trouble) = refl

abbrev none_fitted : Result (Option Fact) Trouble
none_fitted = Ok None

unfitted_refused : (r : Result RawFact Trouble)
    → nat_lt 0 (length (fault_in (r >>= λ raw. none_fitted))) ≡ is_refused_as None r
unfitted_refused (Ok raw) = refl
unfitted_refused (Err trouble) = refl

pub facts_have_faults_where_refused : FactsHaveFaultsWhereRefused
facts_have_faults_where_refused None fact = unfitted_refused (raw_fact_of fact)
facts_have_faults_where_refused (Some names) fact = raw_refused names (raw_fact_of fact)
