-- The JSON object that stands for a report: what is written of it, and what is read of it.
use Rattle.std.proofs.Common.{◌≡◌, ◌-◌, ℤ, pos, negsuc, neg_ℤ, T, ◌&&◌, Bool, true, false, cond, int_le, List, []}
use Rattle.std.proofs.Common.{◌∷◌, ◌++◌, codes, Option, Some, None, Result, Ok, Err, IfOk, is_lt, le-leb, ◌≤◌}
use Rattle.std.proofs.Common.{refl, sym, ap, ◌∙◌, arith, append_assoc, subst}
use Rattle.std.proofs.lemmas.Bool.{leb-true, and_parts}
use Rattle.std.specs.Option.{option_and_then, ok_or}
use Rattle.std.specs.FinMap.Entries.{is_sorted, below_all}
use Rattle.json.specs.Print.{quoted, escape_byte}
use Rattle.serde_json.specs.Data.{Data, object, Members, no_members, member, depth}
use Rattle.serde_json.specs.Find.{get, as_str}
use Rattle.serde_json.specs.Read.{max_depth}
use Rattle.serde_json.specs.Written.{comma_if, compact_text, members_text, has_float}
use Rattle.filing_model.specs.Common.Text.{Text, text_cmp, text_eq}
use Rattle.filing_model.specs.Common.TextMap.{TextMap, from_entries}
use Rattle.filing_model.specs.Common.Try.{◌>>=◌, each, map_err}
use Rattle.filing_model.specs.Reading.JsonText.{json_of, without_mark, pairs}
use Rattle.filing_model.specs.Oim.Numerals.{most_fraction_digits, most_whole_digits, number_of}
use Rattle.filing_model.specs.Oim.Intervals.{accuracy_of, are_decimals}
use Rattle.filing_model.specs.Oim.Dimensions.{AreDims, concept_of}
use Rattle.filing_model.specs.Oim.Facts.{RawFact, Fact, FactValue, Names, fit_of, fit_bound, with_value}
use Rattle.filing_model.specs.Oim.Facts.{value_of, numeric_value, number_with, expanded, are_bound, is_numeric, is_misplaced, written_value}
use Rattle.filing_model.specs.Reading.Fitted.{AreLinks, IsFitted}
use Rattle.filing_model.specs.Oim.Reports.{Report}
use Rattle.filing_model.specs.Reading.ReadFact.{raw_fact_of}
use Rattle.filing_model.specs.Reading.ReadReport.{NotJson, WrongDocumentType, NotWhole, BadFact, document_info_of}
use Rattle.filing_model.specs.Reading.ReadReport.{allowed_of_features, prefixes_of_namespaces, whole_text_of, entry_of}
use Rattle.filing_model.specs.Reading.ReadReport.{facts_of, report_of, read_report_of}
use Rattle.filing_model.specs.Reading.Writing.{decimals_in, raw_of, fact_text, listed, member_text, report_text}
use Rattle.filing_model.specs.declared.faults.NumberFault.{NumberFault}
use Rattle.filing_model.specs.declared.faults.NumberFault.TheVariants.{DecimalsOutOfRange}
use Rattle.filing_model.specs.declared.faults.FactFault.{FactFault}
use Rattle.filing_model.specs.declared.faults.FactFault.TheVariants.{UnboundPrefix, Misplaced}
use Rattle.filing_model.specs.declared.faults.Trouble.TheVariants as trouble
use Rattle.filing_model.proofs.Oim.FitAgain.{fit_again}
use Rattle.filing_model.proofs.Reading.JsonTexts.{whole-IsWritable}
use Rattle.filing_model.proofs.Common.TextMaps.{from_entries-entries}
use Rattle.filing_model.proofs.Reading.WrittenValues.{Reads, EachReads, Reads-object, Reads-writable}
use Rattle.oim_report.specs.Nesting.{NestsWithin}
use Rattle.oim_report.specs.Parts.{IsInfo, document_type}
use Rattle.oim_report.specs.Readable.{AreFitted, IsReadable}
use Rattle.oim_report.specs.ReadableFact.{AreWholeDecimals, IsReadableFact}
use Rattle.oim_report.proofs.ReadBackValues.{read_back}
use Rattle.oim_report.proofs.WrittenFacts.{fact_members, stands_for}

-- ---- a fitted fact is written as a raw fact that can be read

small_decimals : (z : ℤ) → are_decimals z ≡ true → AreWholeDecimals (Some z)
small_decimals (pos n) h =
    let most = leb-true n most_fraction_digits (and_parts (int_le (neg_ℤ (pos most_whole_digits)) (pos n)) _ h).1 in
    omega arith
small_decimals (negsuc n) h =
    let least = leb-true n (most_whole_digits - 1) (and_parts (int_le (neg_ℤ (pos most_whole_digits)) (negsuc n)) _ h).0 in
    omega arith

-- what the definition of a fitted value says of the decimals that are written for it
abbrev WholeIn : Result FactValue FactFault → Type 0
WholeIn r = IfOk r (λ v. AreWholeDecimals (decimals_in v))

number_whole : (text : Text) (n : Result ℤ NumberFault) (decimals : Option ℤ) → WholeIn (number_with text n (accuracy_of decimals))
number_whole text (Err fault) decimals = tt
number_whole text (Ok n) None = tt
number_whole text (Ok n) (Some z) =
    elim (are_decimals z) as (λ b. are_decimals z ≡ b → WholeIn (number_with text (Ok n) (cond b (Ok (Some z)) (Err DecimalsOutOfRange)))) [
      | true ↦ λ h. small_decimals z h
      | false ↦ λ h. tt
    ] refl

written_whole : (value : Option Text) → AreWholeDecimals (decimals_in (written_value value))
written_whole None = tt
written_whole (Some text) = tt

value_whole : (numeric : Bool) (raw : RawFact) → WholeIn (value_of numeric raw)
value_whole true raw =
    elim raw.value as (λ value. WholeIn (numeric_value value raw.decimals)) [
      | None ↦ tt
      | Some text ↦ number_whole text (number_of text) raw.decimals
    ]
value_whole false raw =
    elim (is_misplaced raw) as (λ b. WholeIn (cond b (Err Misplaced) (Ok (written_value raw.value)))) [
      | true ↦ tt
      | false ↦ written_whole raw.value
    ]

-- the fact keeps the links, and its decimals are whole
abbrev IsKept : RawFact → Fact → Type 0
IsKept raw fact = (raw.links ≡ fact.links) × AreWholeDecimals (decimals_in fact.value)

with_value_kept : (raw : RawFact) (r : Result FactValue FactFault) → WholeIn r → IfOk (with_value raw r) (IsKept raw)
with_value_kept raw (Ok v) h = (refl, h)
with_value_kept raw (Err fault) h = tt

bound_kept : (names : Names) (raw : RawFact) (concept : Option (Text × Text)) → IfOk (fit_bound names raw concept) (IsKept raw)
bound_kept names raw None = tt
bound_kept names raw (Some concept) =
    elim (are_bound names.prefixes raw.dims)
    as (λ b. IfOk (cond b (with_value raw (value_of (is_numeric names.table concept) raw)) (Err UnboundPrefix))
    (IsKept raw)) [
      | true ↦ with_value_kept raw _ (value_whole (is_numeric names.table concept) raw)
      | false ↦ tt
    ]

pub IsReadableFact-fitted : (names : Names) (fact : Fact) → AreDims fact.dims → IsFitted names fact → IsReadableFact (raw_of fact)
IsReadableFact-fitted names fact dims fitted =
    let kept =
    subst (λ r. IfOk r (IsKept fitted.0)) fitted.2
    (bound_kept names fitted.0 (option_and_then (expanded names.prefixes) (concept_of fitted.0.dims))) in
    record { dims = dims; decimals = kept.1; links = subst AreLinks kept.0 fitted.1 }

-- ---- the members of `facts`

-- members stand for these entries
pub record StandFor (names : Names) (es : List (Text × Fact)) : Type 0 where
  pub members : Members
  pub reads : EachReads members
  pub below : (k : Text) → below_all text_cmp k (pairs members) ≡ below_all text_cmp k es
  pub sorted : is_sorted text_cmp (pairs members) ≡ is_sorted text_cmp es
  pub written : (later : Bool) → members_text later members ≡ listed later (λ e. member_text e.0 (fact_text e.1)) es ++ codes "}"
  pub read : each (entry_of names) (pairs members) ≡ Ok es

entry_read : (names : Names) (id : Text) (fact : Fact) (d : Data) → raw_fact_of d ≡ Ok (raw_of fact)
    → fit_of names (raw_of fact) ≡ Ok fact → entry_of names (id, d) ≡ Ok (id, fact)
entry_read names id fact d read fits =
    ap (λ r. map_err (BadFact id) r >>= λ raw. map_err (λ fault. BadFact id (trouble.Fit fault)) (fit_of names raw) >>= λ fact. Ok (id, fact)) read
    ∙ ap (λ r. map_err (λ fault. BadFact id (trouble.Fit fault)) r >>= λ fact. Ok (id, fact)) fits

regrouped : (comma name value rest : Text)
    → comma ++ (name ++ 58 ∷ (value ++ (rest ++ codes "}"))) ≡ (comma ++ ((name ++ 58 ∷ value) ++ rest)) ++ codes "}"
regrouped comma name value rest = simp append_assoc

pub stand_for : (names : Names) (es : List (Text × Fact)) → AreFitted names es → StandFor names es
stand_for names [] h = record { members = no_members; reads = tt; below = λ k. refl; sorted = refl; written = λ later. refl; read = refl }
stand_for names (e ∷ es) h =
    let fact = stands_for (raw_of e.1) (IsReadableFact-fitted names e.1 h.0 h.1) in
    let rest = stand_for names es h.2 in
    let first = object (fact_members (decimals_in e.1.value) e.1.dims fact.links (raw_of e.1).value) in
    let fits : fit_of names (raw_of e.1) ≡ Ok e.1 = fit_again names h.1.0 e.1 h.1.2 in
    record {
      members = member e.0 first rest.members;
      reads = (fact.reads, rest.reads);
      below = λ k. ap (λ b. is_lt (text_cmp k e.0) && b) (rest.below k);
      sorted = λ i. rest.below e.0 i && rest.sorted i;
      written = λ later.
          (λ i. comma_if later ++ (quoted e.0 ++ 58 ∷ (sym fact.written i ++ rest.written true i)))
          ∙ regrouped (comma_if later) (quoted e.0) (fact_text e.1) (listed true (λ e. member_text e.0 (fact_text e.1)) es);
      read = (λ i. entry_read names e.0 e.1 first fact.read fits i >>= λ y. rest.read i >>= λ ys. Ok (y ∷ ys));
    }

-- ---- the report

abbrev pub report_members : Members → Members → Members
report_members info facts = member (codes "documentInfo") (object info) (member (codes "facts") (object facts) no_members)

close_both : (facts : Text) → (facts ++ codes "}") ++ codes "}" ≡ facts ++ codes "}}"
close_both facts = append_assoc facts (codes "}") (codes "}")

text_written : (report : Report) (info facts : Members) → report.info ≡ compact_text (object info)
    → members_text false facts ≡ listed false (λ e. member_text e.0 (fact_text e.1)) report.facts.entries ++ codes "}"
    → report_text report ≡ compact_text (object (report_members info facts))
unfolding report_text escape_byte
text_written report info facts info_is facts_are =
    (λ i. codes "{\"documentInfo\":"
    ++ (info_is i ++ (codes ",\"facts\":{"
    ++ sym (close_both (listed false (λ e. member_text e.0 (fact_text e.1)) report.facts.entries)) i)))
    ∙ (λ i. codes "{\"documentInfo\":" ++ (compact_text (object info) ++ (codes ",\"facts\":{" ++ (sym facts_are i ++ codes "}"))))

no_mark : (report : Report) → without_mark (report_text report) ≡ report_text report
unfolding report_text
no_mark report = refl

document_read : (info facts : Members)
    → option_and_then as_str (get (codes "documentType") (object info)) ≡ Some document_type
    → document_info_of (object (report_members info facts)) ≡ Ok (object info)
document_read info facts type =
    ap (λ o. ok_or o WrongDocumentType
    >>= λ type. cond (text_eq type document_type) (Ok (object info))
    (Err WrongDocumentType)) type

whole_read : (d : Data) → has_float d ≡ false → depth d ≤ max_depth → whole_text_of d ≡ Ok (compact_text d)
whole_read d whole shallow =
    (λ i. cond (le-leb (depth d) max_depth shallow i)
    (cond (whole i) (Err NotWhole) (Ok (compact_text d))) (Err NotJson))

facts_read : (names : Names) (facts : Members) (all : TextMap Fact)
    → each (entry_of names) (pairs facts) ≡ Ok all.entries → facts_of names (Some (object facts)) ≡ Ok all
facts_read names facts all read = ap (λ r. r >>= λ entries. Ok (from_entries entries)) read ∙ ap (λ m. Ok m) (from_entries-entries all)

pub report_read : (report : Report) (is : IsInfo report.info report.names.prefixes report.allowed) (facts : Members)
    → each (entry_of report.names) (pairs facts) ≡ Ok report.facts.entries
    → report_of report.names.table (object (report_members is.members facts)) ≡ Ok report
report_read report is facts read =
    (λ i.
    document_read is.members facts is.type i >>= λ document_info.
    allowed_of_features (get (codes "features") document_info) >>= λ allowed.
    prefixes_of_namespaces (get (codes "namespaces") document_info) >>= λ prefixes.
    whole_text_of document_info >>= λ info.
    facts_of (record { prefixes = prefixes; table = report.names.table }) (Some (object facts)) >>= λ facts.
    Ok (record { info = info; names = record { prefixes = prefixes; table = report.names.table }; allowed = allowed; facts = facts }))
    ∙ (λ i.
    is.declares i >>= λ allowed.
    is.binds i >>= λ prefixes.
    whole_read (object is.members) (whole-IsWritable (object is.members) is.writable) is.shallow i >>= λ info.
    facts_of (record { prefixes = prefixes; table = report.names.table }) (Some (object facts)) >>= λ facts.
    Ok (record { info = info; names = record { prefixes = prefixes; table = report.names.table }; allowed = allowed; facts = facts }))
    ∙ (λ i.
    facts_read report.names facts report.facts read i >>= λ facts.
    Ok (record { info = sym is.text i; names = report.names; allowed = report.allowed; facts = facts }))

-- the members of `facts` in the text of a report
abbrev pub written_facts : (report : Report) → IsReadable report → Members
written_facts report is = (stand_for report.names report.facts.entries is.facts).members

-- the value that a report's text stands for
pub record StandsFor (report : Report) (value : Data) : Type 0 where
  pub reads : Reads value
  pub text : report_text report ≡ compact_text value

pub report_value : (report : Report) (is : IsReadable report)
    → StandsFor report (object (report_members is.info.members (written_facts report is)))
report_value report is =
    let facts = stand_for report.names report.facts.entries is.facts in
    let sorted : T (is_sorted text_cmp (pairs facts.members)) = subst T (sym facts.sorted) report.facts.sorted in
    record {
      reads =
          Reads-object (report_members is.info.members facts.members) tt (
            Reads-writable (object is.info.members) is.info.writable,
            (Reads-object facts.members sorted facts.reads, tt),
          );
      text = text_written report is.info.members facts.members is.info.text (facts.written false);
    }

pub report_back : (report : Report) → IsReadable report → NestsWithin max_depth (report_text report)
    → read_report_of report.names.table (report_text report) ≡ Ok report
report_back report is nests =
    let facts = stand_for report.names report.facts.entries is.facts in
    let value = report_value report is in
    ap (λ text. ok_or (json_of text) NotJson >>= λ d. report_of report.names.table d) (no_mark report)
    ∙ ap (λ o. ok_or o NotJson >>= λ d. report_of report.names.table d)
    (read_back (object (report_members is.info.members facts.members)) (report_text report) value.reads value.text nests)
    ∙ report_read report is.info facts.members facts.read
