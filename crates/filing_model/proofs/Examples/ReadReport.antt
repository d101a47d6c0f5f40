-- Worked examples of what is read of a report's text, and of faults.
use Rattle.std.specs.Prelude.{◌≡◌, ℕ, zero, suc, replicate, pos, negsuc, [], ◌∷◌, ◌++◌, codes, None, Some, Result, Ok, Err, refl}
use Rattle.serde_json.specs.Data.{Data, null, array, item, no_items}
use Rattle.filing_model.specs.Common.Text.{Text}
use Rattle.filing_model.specs.Common.TextMap.{from_entries}
use Rattle.filing_model.specs.Reading.ReadReport.{ReportFault, NotJson, WrongShape, BadFact, whole_text_of, read_report_of}
use Rattle.filing_model.specs.Oim.Facts.{Table, Written, Number, Nil}
use Rattle.filing_model.specs.Oim.Reports.{Report}
use Rattle.filing_model.specs.declared.duplicates.Allowed.TheVariants.{All}
use Rattle.filing_model.specs.declared.faults.DimFault.TheVariants.{NoConcept}
use Rattle.filing_model.specs.declared.faults.Trouble.TheVariants as trouble
use Rattle.filing_model.proofs.OnLiterals.{filing_on_literals}

-- `http://e.org/t Assets` alone is numeric
abbrev pub table : Table
table = (codes "http://e.org/t", codes "Assets") ∷ []

abbrev pub read_literal : Text → Result Report ReportFault
read_literal = read_report_of table

-- the document type with further members of `documentInfo`
abbrev pub info_with : Text → Text
info_with members = codes "{\"documentType\":\"https://xbrl.org/2021/xbrl-json\"" ++ (members ++ codes "}")

-- a report with these further members of `documentInfo` and these facts
abbrev pub report_with : Text → Text → Text
report_with members facts = codes "{\"documentInfo\":" ++ (info_with members ++ (codes ",\"facts\":" ++ (facts ++ codes "}")))

-- the prefix ex is bound
abbrev pub bound : Text
bound = codes ",\"namespaces\":{\"ex\":\"http://e.org/t\"}"

-- ---- what is read

-- facts in byte order of their identifiers; Assets is numeric, Name is not
pub facts_are_fitted : read_literal
    (report_with bound (codes
    "{\"b\":{\"value\":\"1000\",\"decimals\":-3,\"dimensions\":{\"concept\":\"ex:Assets\"}},"
    ++ codes "\"a\":{\"value\":\"1000\",\"dimensions\":{\"concept\":\"ex:Name\"}},"
    ++ codes "\"\":{\"value\":null,\"decimals\":7,\"dimensions\":{\"concept\":\"ex:Name\",\"ex:d\":null}}}"))
    ≡ Ok (record {
      info = info_with bound;
      names = record { prefixes = from_entries ((codes "ex", codes "http://e.org/t") ∷ []); table = table };
      allowed = All;
      facts = from_entries (
          ([], record { dims = (codes "concept", Some (codes "ex:Name")) ∷ (codes "ex:d", None) ∷ []; value = Nil; links = None })
          ∷ (codes "a", record { dims = (codes "concept", Some (codes "ex:Name")) ∷ []; value = Written (codes "1000"); links = None })
          ∷ (
            codes "b",
            record {
              dims = (codes "concept", Some (codes "ex:Assets")) ∷ [];
              value = Number (codes "1000") (pos 1000000000000000000) (Some (negsuc 2));
              links = None;
            },
          )
          ∷ []);
    })
unfolding filing_on_literals
facts_are_fitted = refl

-- ---- each fault

-- all URIs are texts before one stands twice
pub shape_before_alias : read_literal (report_with (codes ",\"namespaces\":{\"a\":\"http://u\",\"b\":\"http://u\",\"c\":1}") (codes "{}")) ≡ Err WrongShape
unfolding filing_on_literals
shape_before_alias = refl

-- the first refused fact in byte order of identifiers
pub first_identifier : read_literal (report_with bound (codes "{\"b\":1,\"a\":{\"value\":\"1\",\"dimensions\":{}}}"))
    ≡ Err (BadFact (codes "a") (trouble.Dims NoConcept))
unfolding filing_on_literals
first_identifier = refl

-- ---- how deep `documentInfo` may nest, where it was read of no text

abbrev nested : ℕ → Data
nested zero = null
nested (suc n) = array (item (nested n) no_items)

pub deep_as_a_text : whole_text_of (nested 127) ≡ Ok (replicate 127 91 ++ (codes "null" ++ replicate 127 93))
deep_as_a_text = refl

pub deeper_than_a_text : whole_text_of (nested 128) ≡ Err NotJson
deeper_than_a_text = refl
