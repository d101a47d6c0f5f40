-- The laws of reading back at a raw fact and at a report with two facts: each premise is met there, and the text and
-- what is read of it compute.
use Rattle.std.proofs.Common.{◌≡◌, ◌≤◌, refl, subst, arith, true, pos, negsuc, [], ◌∷◌, ◌++◌, codes, Option, Some, None, Ok, Err}
use Rattle.std.proofs.lemmas.Str.{IsUtf8-from_is_utf8}
use Rattle.std.specs.Prelude.{IsUtf8}
use Rattle.std.specs.Str.{is_utf8}
use Rattle.json.specs.Json as json
use Rattle.json.specs.Tree.{depth}
use Rattle.serde_json.specs.Data.{Data, unsigned, negative, null, number, string, object, Members, no_members, member}
use Rattle.serde_json.specs.Read.{max_depth}
use Rattle.filing_model.specs.Common.Text.{Text}
use Rattle.filing_model.specs.Common.TextMap.{from_entries}
use Rattle.filing_model.specs.Reading.JsonText.{json_of}
use Rattle.filing_model.specs.Oim.Dimensions.{Dims, AreDims}
use Rattle.filing_model.specs.Oim.Facts.{RawFact, Fact, Names, Number, Written}
use Rattle.filing_model.specs.Reading.Fitted.{AreLinks, IsFitted}
use Rattle.filing_model.specs.Oim.Reports.{Report}
use Rattle.filing_model.specs.Reading.ReadFact.{raw_fact_of}
use Rattle.filing_model.specs.Reading.ReadReport.{NotJson, read_report_of}
use Rattle.filing_model.specs.Reading.Writing.{raw_fact_text, report_text}
use Rattle.filing_model.specs.declared.duplicates.Allowed.TheVariants.{Never}
use Rattle.filing_model.proofs.OnLiterals.{filing_on_literals}
use Rattle.filing_model.proofs.Reading.WrittenValues.{same_json}
use Rattle.oim_report.specs.JsonValues.{IsJsonValue}
use Rattle.oim_report.specs.Nesting.{NestsWithin}
use Rattle.oim_report.specs.Parts.{IsInfo, document_type}
use Rattle.oim_report.specs.Readable.{IsReadable}
use Rattle.oim_report.specs.ReadableFact.{IsReadableFact}
use Rattle.oim_report.proofs.ReadFacts.{readable}
use Rattle.oim_report.proofs.WrittenFacts.{raw_fact_back}
use Rattle.oim_report.proofs.WrittenReports.{report_back}

-- ---- a raw fact with each of its members

is_utf8_text : (text : Text) → is_utf8 text ≡ true → IsUtf8 text
is_utf8_text text h = IsUtf8-from_is_utf8 text h

abbrev dims : Dims
dims = (codes "concept", Some (codes "ex:Assets")) ∷ (codes "ex:axis", None) ∷ []

are_dims : AreDims dims
are_dims = record { rise = tt; no_null = refl; concept = refl; short = refl }

abbrev links : Members
links = member (codes "a") (number (unsigned 1)) no_members

abbrev links_text : Option Text
links_text = Some (codes "{\"a\":1}")

are_links : AreLinks links_text
unfolding filing_on_literals
are_links = (links, (tt, (is_utf8_text (codes "a") refl, omega arith, tt)), refl)

abbrev raw : RawFact
raw = record { dims = dims; value = Some (codes "1000"); decimals = Some (negsuc 2); links = links_text }

is_readable : IsReadableFact raw
is_readable = record { dims = are_dims; decimals = omega arith; links = are_links }

abbrev raw_text : Text
raw_text = codes "{\"decimals\":-3,\"dimensions\":{\"concept\":\"ex:Assets\",\"ex:axis\":null},\"links\":{\"a\":1},\"value\":\"1000\"}"

is_raw_text : raw_fact_text raw ≡ raw_text
unfolding filing_on_literals
is_raw_text = refl

abbrev json_links : json.Json
json_links = json.object (json.member (codes "a") (json.number (codes "1")) json.no_members)

abbrev json_fact : json.Json
json_fact = json.object
    (json.member (codes "decimals") (json.number (codes "-3"))
    (json.member (codes "dimensions")
    (json.object (json.member (codes "concept") (json.string (codes "ex:Assets"))
    (json.member (codes "ex:axis") json.null json.no_members)))
    (json.member (codes "links") json_links
    (json.member (codes "value") (json.string (codes "1000")) json.no_members))))

raw_nests : NestsWithin max_depth (raw_fact_text raw)
unfolding filing_on_literals
raw_nests = record {
  utf8 = is_utf8_text raw_text refl;
  shallow = λ json is. subst (λ j. depth j ≤ max_depth) (same_json json_fact json is) (omega arith);
}

pub the_raw_fact_is_read_back : (d : Data) × (json_of (raw_fact_text raw) ≡ Some d) × (raw_fact_of d ≡ Ok raw)
the_raw_fact_is_read_back = raw_fact_back raw is_readable raw_nests

-- what is read of this value has a dimension set, whole decimals and compact links
abbrev value : Data
value = object
    (member (codes "decimals") (number (negative (negsuc 2)))
    (member (codes "dimensions") (object (member (codes "concept") (string (codes "ex:Assets")) (member (codes "ex:axis") null no_members)))
    (member (codes "links") (object links)
    (member (codes "value") (string (codes "1000")) no_members))))

is_json_value : IsJsonValue value
unfolding filing_on_literals
is_json_value = (
  tt,
  (
    is_utf8_text (codes "decimals") refl,
    omega arith,
    (
      is_utf8_text (codes "dimensions") refl,
      (
        tt,
        (
          is_utf8_text (codes "concept") refl,
          is_utf8_text (codes "ex:Assets") refl,
          (is_utf8_text (codes "ex:axis") refl, tt, tt),
        ),
      ),
      (
        is_utf8_text (codes "links") refl,
        (tt, (is_utf8_text (codes "a") refl, omega arith, tt)),
        (
          is_utf8_text (codes "value") refl,
          is_utf8_text (codes "1000") refl,
          tt,
        ),
      ),
    ),
  ),
)

is_read : raw_fact_of value ≡ Ok raw
unfolding filing_on_literals
is_read = refl

pub what_is_read_is_readable : IsReadableFact raw
what_is_read_is_readable = readable value raw is_json_value is_read

-- ---- a report with two facts: a number and a text with a comma and quotes in it

abbrev names : Names
names = record {
  prefixes = from_entries ((codes "ex", codes "http://e.org/t") ∷ []);
  table = (codes "http://e.org/t", codes "Assets") ∷ [];
}

abbrev thousand : Fact
thousand = record {
  dims = dims;
  value = Number (codes "1000") (pos 1000000000000000000) (Some (negsuc 2));
  links = links_text;
}

-- the axis is a name of the taxonomy, with the prefix that is bound
thousand_is_fitted : IsFitted names thousand
unfolding filing_on_literals
thousand_is_fitted = (raw, are_links, refl)

abbrev note_dims : Dims
note_dims = (codes "concept", Some (codes "ex:Note")) ∷ []

are_note_dims : AreDims note_dims
are_note_dims = record { rise = tt; no_null = refl; concept = refl; short = refl }

abbrev raw_note : RawFact
raw_note = record { dims = note_dims; value = Some (codes "so, \"it\" is"); decimals = None; links = None }

abbrev note : Fact
note = record { dims = note_dims; value = Written (codes "so, \"it\" is"); links = None }

note_is_fitted : IsFitted names note
unfolding filing_on_literals
note_is_fitted = (raw_note, tt, refl)

abbrev info : Members
info =
    member (codes "documentType") (string document_type)
    (member (codes "features") (object (member (codes "xbrl:allowedDuplicates") (string (codes "none")) no_members))
    (member (codes "namespaces") (object (member (codes "ex") (string (codes "http://e.org/t")) no_members)) no_members))

abbrev info_text : Text
info_text =
    codes "{\"documentType\":\"https://xbrl.org/2021/xbrl-json\",\"features\":{\"xbrl:allowedDuplicates\":\"none\"},\"namespaces\":{\"ex\":\"http://e.org/t\"}}"

is_info : IsInfo info_text names.prefixes Never
unfolding filing_on_literals
is_info = record {
  members = info;
  writable = (
    tt,
    (
      is_utf8_text (codes "documentType") refl,
      is_utf8_text document_type refl,
      (
        is_utf8_text (codes "features") refl,
        (tt, (is_utf8_text (codes "xbrl:allowedDuplicates") refl, is_utf8_text (codes "none") refl, tt)),
        (
          is_utf8_text (codes "namespaces") refl,
          (tt, (is_utf8_text (codes "ex") refl, is_utf8_text (codes "http://e.org/t") refl, tt)),
          tt,
        ),
      ),
    ),
  );
  shallow = omega arith;
  text = refl;
  type = refl;
  declares = refl;
  binds = refl;
}

abbrev report : Report
report = record {
  info = info_text;
  names = names;
  allowed = Never;
  facts = from_entries ((codes "f1", thousand) ∷ (codes "f2", note) ∷ []);
}

is_readable_report : IsReadable report
is_readable_report = record {
  facts = (are_dims, thousand_is_fitted, (are_note_dims, note_is_fitted, tt));
  info = is_info;
}

abbrev note_text : Text
note_text = codes "{\"dimensions\":{\"concept\":\"ex:Note\"},\"value\":\"so, \\\"it\\\" is\"}"

abbrev whole_text : Text
whole_text =
    codes "{\"documentInfo\":"
    ++ (info_text ++ (codes ",\"facts\":{\"f1\":" ++ (raw_text ++ (codes ",\"f2\":" ++ (note_text ++ codes "}}")))))

is_whole_text : report_text report ≡ whole_text
unfolding filing_on_literals
is_whole_text = refl

abbrev json_info : json.Json
json_info = json.object
    (json.member (codes "documentType") (json.string document_type)
    (json.member (codes "features")
    (json.object (json.member (codes "xbrl:allowedDuplicates") (json.string (codes "none")) json.no_members))
    (json.member (codes "namespaces")
    (json.object (json.member (codes "ex") (json.string (codes "http://e.org/t")) json.no_members))
    json.no_members)))

abbrev json_note : json.Json
json_note = json.object
    (json.member (codes "dimensions")
    (json.object (json.member (codes "concept") (json.string (codes "ex:Note")) json.no_members))
    (json.member (codes "value") (json.string (codes "so, \"it\" is")) json.no_members))

abbrev json_facts : json.Json
json_facts = json.object (json.member (codes "f1") json_fact (json.member (codes "f2") json_note json.no_members))

abbrev json_report : json.Json
json_report = json.object
    (json.member (codes "documentInfo") json_info (json.member (codes "facts") json_facts json.no_members))

report_nests : NestsWithin max_depth (report_text report)
unfolding filing_on_literals
report_nests = record {
  utf8 = is_utf8_text whole_text refl;
  shallow = λ json is. subst (λ j. depth j ≤ max_depth) (same_json json_report json is) (omega arith);
}

pub the_report_is_read_back : read_report_of names.table (report_text report) ≡ Ok report
the_report_is_read_back = report_back report is_readable_report report_nests

-- the same report with the comma between its facts lost is no report
pub the_report_needs_its_comma : read_report_of names.table
    (codes "{\"documentInfo\":"
    ++ (info_text ++ (codes ",\"facts\":{\"f1\":" ++ (raw_text ++ (codes "\"f2\":" ++ (note_text ++ codes "}}")))))) ≡ Err NotJson
unfolding filing_on_literals
the_report_needs_its_comma = refl

-- ---- texts that nest too deep

-- its objects nest four deep, and not three
pub the_report_nests_deeper : NestsWithin 3 (report_text report) → ⊥
unfolding filing_on_literals
the_report_nests_deeper nests = let deep : depth json_report ≤ 3 = nests.shallow json_report refl in omega arith
