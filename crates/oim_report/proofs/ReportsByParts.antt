-- A report by its parts.
use Rattle.std.proofs.Common.{◌≡◌, ◌∙◌, ap, sym, refl, Bool, true, false, cond, nat_le, leb-true, Option, None, Some, is_some, Result, Ok, Err, codes, subst, true≢false}
use Rattle.std.specs.Result.{result_map_both}
use Rattle.std.specs.Option.{option_and_then, option_map_or, ok_or}
use Rattle.serde_json.specs.Data.{Data, null, boolean, number, string, array, object, depth}
use Rattle.serde_json.specs.Find.{get, as_str, as_object}
use Rattle.serde_json.specs.Read.{max_depth}
use Rattle.serde_json.specs.Written.{has_float, compact_text}
use Rattle.filing_model.specs.Common.Text.{Text, text_eq}
use Rattle.filing_model.specs.Common.TextMap.{TextMap}
use Rattle.filing_model.specs.Common.Try.{◌>>=◌, each, map_err}
use Rattle.filing_model.specs.Reading.JsonText.{IsWritable, pairs, object_at}
use Rattle.filing_model.specs.Oim.Facts.{Fact, Names, Table}
use Rattle.filing_model.specs.Oim.Prefixes.{prefixes_of}
use Rattle.filing_model.specs.Oim.Reports.{Report}
use Rattle.filing_model.specs.Reading.ReadReport as report
use Rattle.filing_model.specs.Reading.ReadReport.{ReportFault, AliasTwice, WrongDocumentType, document_info_of, allowed_of_features, prefix_of, prefixes_of_namespaces, whole_text_of, facts_of, report_of}
use Rattle.filing_model.specs.declared.duplicates.Allowed.{Allowed}
use Rattle.filing_model.proofs.Common.Texts.{text_decides}
use Rattle.oim_fact.specs.Names.{names_of}
use Rattle.oim_report.specs.Parts.{IsInfo, document_type}
use Rattle.oim_report.specs.Readings.{Declaration, has_document_type, document_info_at, bound_of, declared_names, report_of_members}

-- ---- the names

abbrev named : Table → TextMap Text → Names
named table prefixes = record { prefixes = prefixes; table = table }

names_by_prefixes : (table : Table) (o : Option Data)
    → (bound_of o >>= λ bound. map_err (λ _. AliasTwice) (names_of bound table))
    ≡ (prefixes_of_namespaces o >>= λ prefixes. Ok (named table prefixes))
names_by_prefixes table None = refl
names_by_prefixes table (Some (object ms)) =
    elim (each prefix_of (pairs ms))
    as (λ r. (r >>= λ bound. map_err (λ _. AliasTwice) (names_of bound table))
    ≡ ((r >>= λ bound. map_err (λ _. AliasTwice) (prefixes_of bound)) >>= λ prefixes. Ok (named table prefixes))) [
      | Err fault ↦ refl
      | Ok bound ↦
          elim (prefixes_of bound) as (λ r. map_err (λ _. AliasTwice) (result_map_both (named table) (λ fault. fault) r)
          ≡ (map_err (λ _. AliasTwice) r >>= λ prefixes. Ok (named table prefixes))) [
            | Ok prefixes ↦ refl
            | Err fault ↦ refl
          ]
    ]
names_by_prefixes table (Some null) = refl
names_by_prefixes table (Some (boolean b)) = refl
names_by_prefixes table (Some (number n)) = refl
names_by_prefixes table (Some (string s)) = refl
names_by_prefixes table (Some (array ds)) = refl

-- ---- `documentInfo`

typed : (o : Option Text) (x : Data)
    → (ok_or o WrongDocumentType >>= λ type. cond (text_eq type document_type) (Ok x) (Err WrongDocumentType))
    ≡ cond (option_map_or (λ type. text_eq type document_type) o false) (Ok x) (Err WrongDocumentType)
typed None x = refl
typed (Some type) x = refl

info_by_member : (d : Data) → document_info_of d ≡ document_info_at (get (codes "documentInfo") d)
info_by_member d =
    ap (λ f. ok_or (object_at (codes "documentInfo") d) report.WrongShape >>= f)
    (λ i info. typed (option_and_then as_str (get (codes "documentType") info)) info i)

-- ---- the whole

abbrev ok_report : Text → Names → Allowed → TextMap Fact → Result Report ReportFault
ok_report info names allowed facts = Ok (record { info = info; names = names; allowed = allowed; facts = facts })

abbrev ok_declaration : Text → Names → Allowed → Result Declaration ReportFault
ok_declaration info names allowed = Ok (record { info = info; names = names; allowed = allowed })

-- what follows once `documentInfo` was read
abbrev of_info : Table → Option Data → Data → Result Report ReportFault
of_info table facts document_info = do
  allowed ← allowed_of_features (get (codes "features") document_info)
  prefixes ← prefixes_of_namespaces (get (codes "namespaces") document_info)
  info ← whole_text_of document_info
  facts ← facts_of (named table prefixes) facts
  ok_report info (named table prefixes) allowed facts

-- what `documentInfo` declares
abbrev declared_from : Table → Data → Result Declaration ReportFault
declared_from table document_info = do
  allowed ← allowed_of_features (get (codes "features") document_info)
  names ← declared_names table document_info
  info ← whole_text_of document_info
  ok_declaration info names allowed

abbrev with_facts : Option Data → Declaration → Result Report ReportFault
with_facts facts declared = do
  facts ← facts_of declared.names facts
  ok_report declared.info declared.names declared.allowed facts

report_by_info : (table : Table) (facts : Option Data) (d : Data) → of_info table facts d ≡ (declared_from table d >>= with_facts facts)
report_by_info table facts d =
    elim (allowed_of_features (get (codes "features") d)) as (λ r.
    (r >>= λ allowed. prefixes_of_namespaces (get (codes "namespaces") d) >>= λ prefixes. whole_text_of d
    >>= λ info. facts_of (named table prefixes) facts
    >>= λ facts. ok_report info (named table prefixes) allowed facts)
    ≡ ((r >>= λ allowed. declared_names table d >>= λ names. whole_text_of d >>= λ info. ok_declaration info names allowed) >>= with_facts facts)) [
      | Err fault ↦ refl
      | Ok allowed ↦
          ap (λ r. r) (elim (prefixes_of_namespaces (get (codes "namespaces") d)) as (λ r.
          (r >>= λ prefixes. whole_text_of d >>= λ info. facts_of (named table prefixes) facts
          >>= λ facts. ok_report info (named table prefixes) allowed facts)
          ≡ (((r >>= λ prefixes. Ok (named table prefixes)) >>= λ names. whole_text_of d
          >>= λ info. ok_declaration info names allowed) >>= with_facts facts)) [
            | Err fault ↦ refl
            | Ok prefixes ↦ elim (whole_text_of d) as (λ r.
                (r >>= λ info. facts_of (named table prefixes) facts >>= λ facts. ok_report info (named table prefixes) allowed facts)
                ≡ ((r >>= λ info. ok_declaration info (named table prefixes) allowed) >>= with_facts facts)) [
                  | Err fault ↦ refl
                  | Ok info ↦ refl
                ]
          ])
          ∙ ap (λ names. (names >>= λ names. whole_text_of d >>= λ info. ok_declaration info names allowed)
          >>= with_facts facts) (sym (names_by_prefixes table (get (codes "namespaces") d)))
    ]

pub report_by_members : (table : Table) (d : Data) → report_of table d ≡ report_of_members table (get (codes "documentInfo") d) (get (codes "facts") d)
report_by_members table d =
    ap (λ r. r >>= of_info table (get (codes "facts") d)) (info_by_member d)
    ∙ elim (document_info_at (get (codes "documentInfo") d))
    as (λ r. (r >>= of_info table (get (codes "facts") d))
    ≡ ((r >>= declared_from table) >>= with_facts (get (codes "facts") d))) [
      | Err fault ↦ refl
      | Ok info ↦ report_by_info table (get (codes "facts") d) info
    ]

-- ---- what is known of the info

type_of : (o : Option Text) → option_map_or (λ type. text_eq type document_type) o false ≡ true → o ≡ Some document_type
type_of None h = absurd (true≢false (sym h))
type_of (Some type) h = ap (λ t. Some t) ((text_decides type document_type).0 h)

-- a value that is accepted as `documentInfo` is an object of the right type
pub record IsAccepted (d : Data) : Type 0 where
  pub is_object : is_some (as_object d) ≡ true
  pub type : option_and_then as_str (get (codes "documentType") d) ≡ Some document_type

if_typed : (b : Bool) (x d : Data) → cond b (Ok x) (Err WrongDocumentType) ≡ Ok d → (b ≡ true) × (x ≡ d)
if_typed true x d h = (refl, cc)
if_typed false x d h = cc

accepted_object : (x d : Data) → is_some (as_object x) ≡ true → cond (has_document_type x) (Ok x) (Err WrongDocumentType) ≡ Ok d → IsAccepted d
accepted_object x d shape h =
    let both = if_typed (has_document_type x) x d h in
    subst IsAccepted both.1 (record { is_object = shape; type = type_of _ both.0 })

accepted : (o : Option Data) (d : Data) → document_info_at o ≡ Ok d → IsAccepted d
accepted None d h = cc
accepted (Some (object ms)) d h = accepted_object (object ms) d refl h
accepted (Some null) d h = cc
accepted (Some (boolean b)) d h = cc
accepted (Some (number n)) d h = cc
accepted (Some (string s)) d h = cc
accepted (Some (array ds)) d h = cc

-- the value nests no deeper than a reader goes, and the text is its own
text_if : (shallow float : Bool) (t info : Text)
    → cond shallow (cond float (Err report.NotWhole) (Ok t)) (Err report.NotJson) ≡ Ok info
    → (shallow ≡ true) × (info ≡ t)
text_if false float t info h = cc
text_if true true t info h = cc
text_if true false t info h = (refl, cc)

bound_by : (table : Table) (r : Result (TextMap Text) ReportFault) (names : Names)
    → (r >>= λ prefixes. Ok (named table prefixes)) ≡ Ok names → r ≡ Ok names.prefixes
bound_by table (Ok prefixes) names h = let same : named table prefixes ≡ names = cc in ap (λ n. Ok n.prefixes) same
bound_by table (Err fault) names h = cc

info_of_object : (table : Table) (d : Data) (info : Text) (names : Names) (allowed : Allowed) → IsAccepted d
    → allowed_of_features (get (codes "features") d) ≡ Ok allowed → declared_names table d ≡ Ok names
    → whole_text_of d ≡ Ok info → IsWritable d → IsInfo info names.prefixes allowed
info_of_object table (object ms) info names allowed is declares named_by text writable =
    let both = text_if (nat_le (depth (object ms)) max_depth) (has_float (object ms)) (compact_text (object ms)) info text in
    record {
      members = ms;
      writable = writable;
      shallow = leb-true (depth (object ms)) max_depth both.0;
      text = both.1;
      type = is.type;
      declares = declares;
      binds =
          bound_by table (prefixes_of_namespaces (get (codes "namespaces") (object ms))) names
          (sym (names_by_prefixes table (get (codes "namespaces") (object ms))) ∙ named_by);
    }
info_of_object table null info names allowed is declares named_by text writable = absurd (true≢false (sym is.is_object))
info_of_object table (boolean b) info names allowed is declares named_by text writable = absurd (true≢false (sym is.is_object))
info_of_object table (number n) info names allowed is declares named_by text writable = absurd (true≢false (sym is.is_object))
info_of_object table (string s) info names allowed is declares named_by text writable = absurd (true≢false (sym is.is_object))
info_of_object table (array ds) info names allowed is declares named_by text writable = absurd (true≢false (sym is.is_object))

pub info_of_declared : (table : Table) (o : Option Data) (d : Data) (info : Text) (names : Names) (allowed : Allowed) → document_info_at o ≡ Ok d
    → allowed_of_features (get (codes "features") d) ≡ Ok allowed → declared_names table d ≡ Ok names
    → whole_text_of d ≡ Ok info → IsWritable d → IsInfo info names.prefixes allowed
info_of_declared table o d info names allowed h = info_of_object table d info names allowed (accepted o d h)
