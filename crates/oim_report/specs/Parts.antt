-- The parts of a report, as a program holds them: its facts are a list.
use Rattle.std.specs.Prelude.{◌≡◌, ◌≤◌, T, List, map, Some, Ok, codes, String, string_bytes, option_and_then}
use Rattle.std.specs.Arc.{arc_value}
use Rattle.std.specs.FinMap.Entries.{is_sorted}
use Rattle.std.specs.declared.sync.Arc.{Arc}
use Rattle.std.specs.declared.alloc.Global.{Global}
use Rattle.serde_json.specs.Data.{Members, object, depth}
use Rattle.serde_json.specs.Find.{get, as_str}
use Rattle.serde_json.specs.Read.{max_depth}
use Rattle.serde_json.specs.Written.{compact_text}
use Rattle.filing_model.specs.Common.Text.{Text, text_cmp}
use Rattle.filing_model.specs.Common.TextMap.{TextMap, from_entries}
use Rattle.filing_model.specs.Reading.JsonText.{IsWritable}
use Rattle.filing_model.specs.Oim.Facts.{Fact, Names}
use Rattle.filing_model.specs.Oim.Reports.{Report}
use Rattle.filing_model.specs.Reading.ReadReport.{allowed_of_features, prefixes_of_namespaces}
use Rattle.filing_model.specs.declared.duplicates.Allowed.{Allowed}

-- an identifier with its fact, which is shared
abbrev pub fact_view : String Global × Arc Fact Global → Text × Fact
fact_view entry = (string_bytes entry.0, arc_value entry.1)

abbrev pub facts_view : List (String Global × Arc Fact Global) → List (Text × Fact)
facts_view facts = map fact_view facts

-- the four parts, whose facts stand in a list
pub record Parts : Type 0 where
  pub info : Text
  pub names : Names
  pub allowed : Allowed
  pub facts : List (Text × Fact)

-- the document type of a report (xBRL-JSON 1.0)
abbrev pub document_type : Text
document_type = codes "https://xbrl.org/2021/xbrl-json"

-- a text is the info of these prefixes and this declared value: the compact text of an object, with whole numbers
-- alone and nested no deeper than a reader goes, that is accepted as `documentInfo` (xBRL-JSON 1.0) and says them
pub record IsInfo (info : Text) (prefixes : TextMap Text) (allowed : Allowed) : Type 0 where
  pub members : Members
  pub writable : IsWritable (object members)
  pub shallow : depth (object members) ≤ max_depth
  pub text : info ≡ compact_text (object members)
  pub type : option_and_then as_str (get (codes "documentType") (object members)) ≡ Some document_type
  pub declares : allowed_of_features (get (codes "features") (object members)) ≡ Ok allowed
  pub binds : prefixes_of_namespaces (get (codes "namespaces") (object members)) ≡ Ok prefixes

-- parts are those of a report: the identifiers strictly rise in byte order, and the info is that of the prefixes and
-- the declared value
pub record AreParts (parts : Parts) : Type 0 where
  pub rise : T (is_sorted text_cmp parts.facts)
  pub info : IsInfo parts.info parts.names.prefixes parts.allowed

-- the report of these parts
abbrev pub whole : Parts → Report
whole parts = record {
  info = parts.info;
  names = parts.names;
  allowed = parts.allowed;
  facts = from_entries parts.facts;
}

-- the parts of this report
abbrev pub parts_of : Report → Parts
parts_of report = record {
  info = report.info;
  names = report.names;
  allowed = report.allowed;
  facts = report.facts.entries;
}
