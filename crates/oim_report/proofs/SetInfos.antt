-- The info of a report in which a declared value was set.
use Rattle.std.proofs.Common.{◌≡◌, ◌≤◌, ◌∙◌, ap, sym, refl, subst, arith, codes, IsUtf8, Some, Ok, ok_or, option_and_then}
use Rattle.std.proofs.lemmas.Str.{IsUtf8-from_is_utf8}
use Rattle.json.specs.Lex.{tokens}
use Rattle.json.specs.Tree as tree
use Rattle.serde_json.specs.Data.{Data, string, object, Members, depth}
use Rattle.serde_json.specs.Find.{get, as_str}
use Rattle.serde_json.specs.Read.{read, max_depth}
use Rattle.serde_json.specs.Written.{outline}
use Rattle.serde_json.proofs.Views.{get_member-put}
use Rattle.filing_model.specs.Common.Text.{Text}
use Rattle.filing_model.specs.Common.TextMap.{TextMap}
use Rattle.filing_model.specs.Oim.Reports.{Report}
use Rattle.filing_model.specs.Reading.ReadReport.{BadPolicy, allowed_word, allowed_of_value, allowed_of_features, prefixes_of_namespaces, read_report_of}
use Rattle.filing_model.specs.Reading.Writing.{report_text}
use Rattle.filing_model.specs.Reading.DeclaredValue.{features_in, with_value, declaring, with_allowed, report_declaring}
use Rattle.filing_model.specs.declared.duplicates.Allowed.{Allowed}
use Rattle.filing_model.proofs.Reading.JsonTexts.{whole-IsWritable}
use Rattle.filing_model.proofs.Reading.ReadValues.{IsRead-writable}
use Rattle.filing_model.proofs.OnLiterals.{filing_on_literals}
use Rattle.filing_model.proofs.Reading.WrittenValues.{Reads-writable, read_written, written_tokens, outline_depth, same_json}
use Rattle.filing_model.proofs.Reading.DeclaredValues.{set_written, depth_declaring, others_declaring, writable_declaring, word_read}
use Rattle.oim_report.specs.Nesting.{NestsWithin}
use Rattle.oim_report.specs.Parts.{IsInfo}
use Rattle.oim_report.specs.Readable.{IsReadable}
use Rattle.oim_report.proofs.Utf8Texts.{IsUtf8-writable, utf8_between}
use Rattle.oim_report.proofs.WrittenReports.{report_members, written_facts, report_value, report_back}

-- the value that was set is declared
pub declares_set : (ms : Members) (set : Allowed) → allowed_of_features (get (codes "features") (object (declaring ms set))) ≡ Ok set
declares_set ms set =
    ap allowed_of_features (get_member-put (codes "features") (object (with_value (features_in ms) set)) ms)
    ∙ ap allowed_of_value (get_member-put (codes "xbrl:allowedDuplicates") (string (allowed_word set)) (features_in ms))
    ∙ ap (λ o. ok_or o BadPolicy) (word_read set)

abbrev pub info_set : (info : Text) (prefixes : TextMap Text) (before set : Allowed) → IsInfo info prefixes before
    → IsInfo (with_allowed info set) prefixes set
info_set info prefixes before set is =
    let read = IsRead-writable (object is.members) is.writable in
    let whole = whole-IsWritable (object is.members) is.writable in
    record {
      members = declaring is.members set;
      writable = writable_declaring is.members set is.writable;
      shallow = depth_declaring 125 is.members set read whole is.shallow;
      text = ap (λ text. with_allowed text set) is.text ∙ set_written is.members set read whole is.shallow;
      type = ap (option_and_then as_str) (others_declaring (codes "documentType") is.members set refl) ∙ is.type;
      declares = declares_set is.members set;
      binds = ap prefixes_of_namespaces (others_declaring (codes "namespaces") is.members set refl) ∙ is.binds;
    }

-- what is read of a report's info
pub info_read : (info : Text) (prefixes : TextMap Text) (declared : Allowed) → IsInfo info prefixes declared
    → (d : Data) × (read info ≡ Some d)
    × (allowed_of_features (get (codes "features") d) ≡ Ok declared)
    × (prefixes_of_namespaces (get (codes "namespaces") d) ≡ Ok prefixes)
info_read info prefixes declared is = (
  object is.members,
  ap read is.text ∙ read_written (object is.members) (Reads-writable (object is.members) is.writable) is.shallow,
  is.declares,
  is.binds,
)

abbrev pub report_set : (report : Report) (set : Allowed) → IsReadable report → IsReadable (report_declaring report set)
report_set report set is = record {
  facts = is.facts;
  info = info_set report.info report.names.prefixes report.allowed set is.info;
}

-- ---- the text of a report in which a value was set

-- its `documentInfo` nests no deeper than a text may that stands in the text of a report
shallow_set : (report : Report) (set : Allowed) (is : IsReadable report) (facts : Members)
    → depth (object (report_members is.info.members facts)) ≤ max_depth
    → depth (object (report_members (declaring is.info.members set) facts)) ≤ max_depth
shallow_set report set is facts shallow =
    let writable = is.info.writable in
    omega (
      arith,
      depth_declaring 124 is.info.members set (IsRead-writable (object is.info.members) writable)
          (whole-IsWritable (object is.info.members) writable) (omega arith),
    )

begin_utf8 : IsUtf8 (codes "{\"documentInfo\":")
unfolding filing_on_literals
begin_utf8 = IsUtf8-from_is_utf8 (codes "{\"documentInfo\":") refl

info_utf8 : (info : Text) (prefixes : TextMap Text) (declared : Allowed) → IsInfo info prefixes declared → IsUtf8 info
info_utf8 info prefixes declared is = subst IsUtf8 (sym is.text) (IsUtf8-writable (object is.members) is.writable)

utf8_set : (report : Report) (set : Allowed) → IsReadable report → IsUtf8 (report_text report)
    → IsUtf8 (report_text (report_declaring report set))
unfolding report_text
utf8_set report set is whole =
    utf8_between (codes "{\"documentInfo\":") report.info (with_allowed report.info set) _ begin_utf8
    (info_utf8 report.info report.names.prefixes report.allowed is.info)
    (info_utf8 (with_allowed report.info set) report.names.prefixes set (report_set report set is).info) whole

nests_set : (report : Report) (set : Allowed) → IsReadable report → NestsWithin max_depth (report_text report)
    → NestsWithin max_depth (report_text (report_declaring report set))
nests_set report set is nests =
    let facts = written_facts report is in
    let before = object (report_members is.info.members facts) in
    let after = object (report_members (declaring is.info.members set) facts) in
    let old = report_value report is in
    let new = report_value (report_declaring report set) (report_set report set is) in
    let within : tree.depth (outline before) ≤ max_depth =
    nests.shallow (outline before) (ap tokens old.text ∙ written_tokens before old.reads) in
    let shallow : depth before ≤ max_depth = omega (arith, outline_depth before) in
    let bound : tree.depth (outline after) ≤ max_depth =
    omega (arith, outline_depth after, shallow_set report set is facts shallow) in
    record {
      utf8 = utf8_set report set is nests.utf8;
      shallow = λ json same. subst (λ j. tree.depth j ≤ max_depth)
          (same_json (outline after) json (sym (ap tokens new.text ∙ written_tokens after new.reads) ∙ same)) bound;
    }

pub set_back : (report : Report) (set : Allowed) → IsReadable report → NestsWithin max_depth (report_text report)
    → read_report_of report.names.table (report_text (report_declaring report set)) ≡ Ok (report_declaring report set)
set_back report set is nests =
    report_back (report_declaring report set) (report_set report set is) (nests_set report set is nests)
