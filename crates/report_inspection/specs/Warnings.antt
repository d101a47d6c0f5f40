-- Warnings: what loads but is probably a mistake. The project's own.
use Rattle.std.specs.Prelude.{◌≡◌, Bool, IsTrue, true, false, ◌||◌, if◌then◌else◌, List, [], ◌∷◌, ◌++◌, map}
use Rattle.std.specs.Prelude.{Option, None, Some, option_map, string_bytes, codes}
use Rattle.std.specs.List.{list_any, AllByRecursion}
use Rattle.std.specs.List.Sorted.{IsStrictlySortedBy}
use Rattle.std.specs.Option.{option_map_or}
use Rattle.json.specs.Find.{get}
use Rattle.json.specs.Json.{Json, null, boolean, number, string, array, object}
use Rattle.json.specs.Strict.{keys}
use Rattle.filing_model.specs.Common.Text.{Text, text_cmp, text_eq}
use Rattle.report_inspection.specs.KeptFacts.{kept_of}
use Rattle.report_inspection.specs.MemberNames.{NameSet, has_name, is_repeated, is_repeated_in, is_unknown}
use Rattle.report_inspection.specs.declared.known_names.ObjectKind.TheVariants as kind
use Rattle.report_inspection.specs.declared.warning.Warning.{Warning}
use Rattle.report_inspection.specs.declared.warning.WarningKind.{WarningKind}
use Rattle.report_inspection.specs.declared.warning.WarningKind.TheVariants as warning

-- a warning as it is told: its kind, the identifier of a fact, and a name
abbrev pub Told : Type 0
Told = WarningKind × (Option Text × Text)

abbrev pub told : Warning → Told
told w = (w.kind, (option_map string_bytes w.fact, string_bytes w.name))

-- the names of the members of an object
abbrev pub names_in : Json → List Text
names_in null = []
names_in (boolean b) = []
names_in (number s) = []
names_in (string s) = []
names_in (array js) = []
names_in (object ms) = keys ms

-- what stands at this member passes the test
abbrev pub member_has : (Json → Bool) → Text → Json → Bool
member_has test name value = option_map_or test (get name value) false

-- a name stands more than once: in the report itself, in an object of `documentInfo`, or in `facts`
abbrev pub is_repeated_in_report : Json → Text → Bool
is_repeated_in_report report name = is_repeated (names_in report) name
    || (member_has (λ info. is_repeated_in info name) (codes "documentInfo") report
    || member_has (λ facts. is_repeated (names_in facts) name) (codes "facts") report)

-- it is the name of a member that the report or `documentInfo` does not have
abbrev pub is_unknown_in_report : Json → Text → Bool
is_unknown_in_report report name = is_unknown kind.Report (names_in report) name
    || member_has (λ info. is_unknown kind.DocumentInfo (names_in info) name) (codes "documentInfo") report

-- of a fact
abbrev pub is_unknown_in_fact : Json → Text → Bool
is_unknown_in_fact fact name = is_unknown kind.Fact (names_in fact) name

-- just the names that pass the test
abbrev pub Has : (Text → Bool) → NameSet → Type 0
Has test names = (name : Text) → has_name names name ≡ test name

-- ---- what is told

-- just the names that pass the test, in byte order, each once
pub record AreNames (test : Text → Bool) (names : List Text) : Type 0 where
  pub rise : IsStrictlySortedBy text_cmp names
  pub each : (name : Text) → list_any (text_eq name) names ≡ test name

-- a warning of this kind for each of them
pub record AreOfNames (kind : WarningKind) (fact : Option Text) (test : Text → Bool) (ws : List Told) : Type 0 where
  pub names : List Text
  pub are : AreNames test names
  pub told : ws ≡ map (λ name. (kind, (fact, name))) names

-- some warnings and then others
pub record Then (First Later : List Told → Type 0) (ws : List Told) : Type 0 where
  pub first : List Told
  pub later : List Told
  pub are_first : First first
  pub are_later : Later later
  pub both : ws ≡ first ++ later

-- of a report apart from its facts
abbrev pub AreOfReport : Json → List Told → Type 0
AreOfReport report = Then
    (AreOfNames warning.NameTwice None (is_repeated_in_report report))
    (AreOfNames warning.NotRead None (is_unknown_in_report report))

-- a fact has a number of decimals, and a value that is null
abbrev pub is_idle : Option Json → Option Json → Bool
is_idle (Some null) (Some (number s)) = true
is_idle value decimals = false

abbrev pub has_idle_decimals : Json → Bool
has_idle_decimals fact = is_idle (get (codes "value") fact) (get (codes "decimals") fact)

abbrev pub of_decimals : Text → Json → List Told
of_decimals id fact =
    if has_idle_decimals fact then (warning.DecimalsBesideNull, (Some id, codes "decimals")) ∷ [] else []

-- of a fact under this identifier
abbrev pub AreOfFact : Text → Json → List Told → Type 0
AreOfFact id fact = Then
    (AreOfNames warning.NameTwice (Some id) (is_repeated_in fact))
    (Then (AreOfNames warning.NotRead (Some id) (is_unknown_in_fact fact)) (λ ws. ws ≡ of_decimals id fact))

-- of each of these facts, in their order
abbrev pub AreOfFacts : List (Text × Json) → List Told → Type 0
AreOfFacts [] ws = ws ≡ []
AreOfFacts (fact ∷ facts) ws = Then (AreOfFact fact.0 fact.1) (AreOfFacts facts) ws

-- such warnings are told after others
pub record Tells (Are : List Told → Type 0) (before after : List Warning) : Type 0 where
  pub told_now : List Told
  pub are : Are told_now
  pub behind : map told after ≡ map told before ++ told_now

-- ---- the whole

-- warnings of this kind are of concepts
abbrev pub is_of_concept : WarningKind → Bool
is_of_concept warning.NameTwice = false
is_of_concept warning.NotRead = false
is_of_concept warning.DecimalsBesideNull = false
is_of_concept warning.NotInTable = true
is_of_concept warning.OtherNamespace = true

abbrev pub AreOfConcepts : List Told → Type 0
AreOfConcepts ws = AllByRecursion (λ w. IsTrue (is_of_concept w.0)) ws

-- the members of a value that is an object, of which the last of a name stays; else none
abbrev pub kept_in : Json → List (Text × Json)
kept_in null = []
kept_in (boolean b) = []
kept_in (number s) = []
kept_in (string s) = []
kept_in (array js) = []
kept_in (object ms) = kept_of ms

-- the facts that a reading keeps
abbrev pub kept_facts : Json → List (Text × Json)
kept_facts report = option_map_or kept_in (get (codes "facts") report) []

-- all warnings of a report: just those of its names and of its facts, and after them some of concepts
abbrev pub AreOf : Json → List Told → Type 0
AreOf report = Then (AreOfReport report) (Then (AreOfFacts (kept_facts report)) AreOfConcepts)
