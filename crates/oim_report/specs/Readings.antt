-- Readings of parts of a report, each by what stands at its name.
use Rattle.std.specs.Prelude.{Bool, false, if◌then◌else◌, List, [], codes, Option, None, Some, Result, Ok, Err, ok_or, option_and_then, String, string_bytes}
use Rattle.std.specs.Option.{option_map_or}
use Rattle.std.specs.declared.alloc.Global.{Global}
use Rattle.serde_json.specs.Data.{Data}
use Rattle.serde_json.specs.Find.{get, as_str, as_object}
use Rattle.filing_model.specs.Common.Text.{Text, text_eq}
use Rattle.filing_model.specs.Common.TextMap.{TextMap}
use Rattle.filing_model.specs.Common.Try.{◌>>=◌, each, map_err}
use Rattle.filing_model.specs.Reading.JsonText.{pairs, an_object, as_nullable}
use Rattle.filing_model.specs.Oim.Dimensions.{dims_of}
use Rattle.filing_model.specs.Oim.Facts.{Fact, Names, RawFact, Table, fit_of}
use Rattle.filing_model.specs.Reading.ReadFact.{dim_of, decimals_of, links_of}
use Rattle.filing_model.specs.Reading.ReadReport as report
use Rattle.filing_model.specs.Reading.ReadReport.{ReportFault, AliasTwice, WrongDocumentType, prefix_of, allowed_of_features, whole_text_of, facts_of}
use Rattle.filing_model.specs.Oim.Reports.{Report}
use Rattle.filing_model.specs.declared.duplicates.Allowed.{Allowed}
use Rattle.filing_model.specs.declared.faults.Trouble.{Trouble}
use Rattle.filing_model.specs.declared.faults.Trouble.TheVariants.{WrongShape, Dims, Fit}
use Rattle.oim_fact.specs.Names.{names_of}
use Rattle.oim_fact.specs.Texts.{text_view}
use Rattle.oim_report.specs.Parts.{document_type}

-- what a value with a model is seen as
abbrev pub same : {A : Type 0} → A → A
same x = x

-- a name with a text or null
abbrev pub dim_view : String Global × Option (String Global) → Text × Option Text
dim_view pair = (string_bytes pair.0, text_view pair.1)

-- the dimensions as they stand in the member `dimensions`
abbrev pub dims_at : Option Data → Result (List (Text × Option Text)) Trouble
dims_at dimensions = do
  members ← ok_or (option_and_then as_object dimensions) WrongShape
  each dim_of (pairs members)

-- the raw fact of these dimensions, as they stand in their object, and of these members
abbrev pub raw_fact_with : List (Text × Option Text) → (value decimals links : Option Data) → Result RawFact Trouble
raw_fact_with named value decimals links = do
  value ← ok_or (option_and_then as_nullable value) WrongShape
  decimals ← decimals_of decimals
  links ← links_of links
  dims ← map_err Dims (dims_of named)
  Ok (record { dims = dims; value = value; decimals = decimals; links = links })

-- the raw fact of these members of an object
abbrev pub raw_fact_at : (dimensions value decimals links : Option Data) → Result RawFact Trouble
raw_fact_at dimensions value decimals links = do
  named ← dims_at dimensions
  raw_fact_with named value decimals links

-- a raw fact by the names of its report
abbrev pub fitted_of : Names → RawFact → Result Fact Trouble
fitted_of names raw = map_err Fit (fit_of names raw)

-- its type is that of an xBRL-JSON 1.0 report
abbrev pub has_document_type : Data → Bool
has_document_type info =
    option_map_or (λ type. text_eq type document_type)
    (option_and_then as_str (get (codes "documentType") info)) false

-- the member `documentInfo`, an object of the right document type
abbrev pub document_info_at : Option Data → Result Data ReportFault
document_info_at value = do
  info ← ok_or (option_and_then an_object value) report.WrongShape
  if has_document_type info then Ok info else Err WrongDocumentType

-- the prefixes with their URIs of the member `namespaces`, in a list
abbrev pub bound_of : Option Data → Result (List (Text × Text)) ReportFault
bound_of None = Ok []
bound_of (Some namespaces) = do
  members ← ok_or (as_object namespaces) report.WrongShape
  each prefix_of (pairs members)

-- the names that `documentInfo` declares, by this numeric table
abbrev pub declared_names : Table → Data → Result Names ReportFault
declared_names table info = do
  bound ← bound_of (get (codes "namespaces") info)
  map_err (λ _. AliasTwice) (names_of bound table)

-- what a report says of itself
pub record Declaration : Type 0 where
  pub info : Text
  pub names : Names
  pub allowed : Allowed

-- the report that says this of itself and has these facts
abbrev pub of_declared : Declaration → TextMap Fact → Report
of_declared declared facts =
    record { info = declared.info; names = declared.names; allowed = declared.allowed; facts = facts }

-- what the member `documentInfo` declares, by this numeric table
abbrev pub declared_by : Table → Option Data → Result Declaration ReportFault
declared_by table value = do
  document_info ← document_info_at value
  allowed ← allowed_of_features (get (codes "features") document_info)
  names ← declared_names table document_info
  info ← whole_text_of document_info
  Ok (record { info = info; names = names; allowed = allowed })

-- the report of these members at its top, by this numeric table
abbrev pub report_of_members : Table → Option Data → Option Data → Result Report ReportFault
report_of_members table document_info facts = do
  declared ← declared_by table document_info
  facts ← facts_of declared.names facts
  Ok (of_declared declared facts)
