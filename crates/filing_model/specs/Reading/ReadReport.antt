-- Reading a report (xBRL-JSON 1.0; the feature `xbrl:allowedDuplicates` of Open Information Model 1.0). Members at the top other than `documentInfo` and `facts` are passed over. The order of the faults, that a URI has one prefix and that numbers are whole are the project's own.
use Rattle.std.specs.Prelude.{ℕ, nat_le, if◌then◌else◌, List, [], ◌∷◌, map, codes, Option, None, Some, Result, Ok, Err, ok_or, option_and_then}
use Rattle.std.specs.FinMap.Entries.{find}
use Rattle.serde_json.specs.Data.{Data, object, depth}
use Rattle.serde_json.specs.Find.{get, as_str}
use Rattle.serde_json.specs.Read.{max_depth}
use Rattle.serde_json.specs.Written.{has_float, compact_text}
use Rattle.filing_model.specs.Common.Text.{Text, text_cmp, text_eq}
use Rattle.filing_model.specs.Common.TextMap.{TextMap, empty, from_entries}
use Rattle.filing_model.specs.Common.Try.{◌>>=◌, each, map_err}
use Rattle.filing_model.specs.Oim.Facts.{Fact, Names, Table, fit_of}
use Rattle.filing_model.specs.Oim.Prefixes.{prefixes_of}
use Rattle.filing_model.specs.Oim.Reports.{Report}
use Rattle.filing_model.specs.Reading.JsonText.{json_of, without_mark, pairs, object_at}
use Rattle.filing_model.specs.Reading.ReadFact.{raw_fact_of}
use Rattle.filing_model.specs.declared.duplicates.Allowed.{Allowed}
use Rattle.filing_model.specs.declared.duplicates.Allowed.TheVariants.{Never, Complete, Consistent, All}
use Rattle.filing_model.specs.declared.faults.Trouble.{Trouble}
use Rattle.filing_model.specs.declared.faults.Trouble.TheVariants.{Fit}

-- why a text is no report. Want of memory is none of these
pub data ReportFault : Type 0 where
  NotJson : ReportFault
  WrongShape : ReportFault
  WrongDocumentType : ReportFault
  BadPolicy : ReportFault
  AliasTwice : ReportFault
  NotWhole : ReportFault
  BadFact : Text → Trouble → ReportFault

-- the member `documentInfo`, an object of the right document type
abbrev pub document_info_of : Data → Result Data ReportFault
document_info_of d = do
  info ← ok_or (object_at (codes "documentInfo") d) WrongShape
  type ← ok_or (option_and_then as_str (get (codes "documentType") info)) WrongDocumentType
  if text_eq type (codes "https://xbrl.org/2021/xbrl-json") then Ok info else Err WrongDocumentType

-- the word for allowed duplicates
abbrev pub allowed_word : Allowed → Text
allowed_word Never = codes "none"
allowed_word Complete = codes "complete"
allowed_word Consistent = codes "consistent"
allowed_word All = codes "all"

-- each word, with what it allows
abbrev pub allowed_words : List (Text × Allowed)
allowed_words = map (λ allowed. (allowed_word allowed, allowed)) (Never ∷ Complete ∷ Consistent ∷ All ∷ [])

abbrev pub allowed_of_word : Text → Option Allowed
allowed_of_word word = find text_cmp word allowed_words

-- of the feature's value, where it is declared
abbrev pub allowed_of_value : Option Data → Result Allowed ReportFault
allowed_of_value None = Ok All
allowed_of_value (Some d) = ok_or (option_and_then allowed_of_word (as_str d)) BadPolicy

-- of the member `features`
abbrev pub allowed_of_features : Option Data → Result Allowed ReportFault
allowed_of_features None = Ok All
allowed_of_features (Some (object ms)) = allowed_of_value (get (codes "xbrl:allowedDuplicates") (object ms))
allowed_of_features (Some d) = Err WrongShape

-- a prefix with its URI
abbrev pub prefix_of : Text × Data → Result (Text × Text) ReportFault
prefix_of member = do
  uri ← ok_or (as_str member.1) WrongShape
  Ok (member.0, uri)

-- of the member `namespaces`. An object names no prefix twice, so a fault of the prefixes is that of a URI
abbrev pub prefixes_of_namespaces : Option Data → Result (TextMap Text) ReportFault
prefixes_of_namespaces None = Ok empty
prefixes_of_namespaces (Some (object ms)) = do
  bound ← each prefix_of (pairs ms)
  map_err (λ _. AliasTwice) (prefixes_of bound)
prefixes_of_namespaces (Some d) = Err WrongShape

-- the compact text of a value with whole numbers alone. A value of a JSON text nests no deeper than a reader goes; one that nests deeper is of none
abbrev pub whole_text_of : Data → Result Text ReportFault
whole_text_of d =
    if nat_le (depth d) max_depth then (if has_float d then Err NotWhole else Ok (compact_text d)) else Err NotJson

-- an identifier with its fact
abbrev pub entry_of : Names → Text × Data → Result (Text × Fact) ReportFault
entry_of names member = do
  raw ← map_err (BadFact member.0) (raw_fact_of member.1)
  fact ← map_err (λ fault. BadFact member.0 (Fit fault)) (fit_of names raw)
  Ok (member.0, fact)

-- of the member `facts`, whose members stand in byte order of their names
abbrev pub facts_of : Names → Option Data → Result (TextMap Fact) ReportFault
facts_of names None = Ok empty
facts_of names (Some (object ms)) = do
  entries ← each (entry_of names) (pairs ms)
  Ok (from_entries entries)
facts_of names (Some d) = Err WrongShape

-- the report that a JSON value is by this numeric table, or the first fault
abbrev pub report_of : Table → Data → Result Report ReportFault
report_of table d = do
  document_info ← document_info_of d
  allowed ← allowed_of_features (get (codes "features") document_info)
  prefixes ← prefixes_of_namespaces (get (codes "namespaces") document_info)
  info ← whole_text_of document_info
  facts ← facts_of (record { prefixes = prefixes; table = table }) (get (codes "facts") d)
  Ok (record { info = info; names = record { prefixes = prefixes; table = table }; allowed = allowed; facts = facts })

-- the report that a text is, after one byte order mark, or the first fault
abbrev pub read_report_of : Table → List ℕ → Result Report ReportFault
read_report_of table bytes = do
  d ← ok_or (json_of (without_mark bytes)) NotJson
  report_of table d
