-- Names that stand twice in an object, and those of members that are not known. The project's own.
use Rattle.std.specs.Prelude.{◌≡◌, Bool, false, ◌||◌, ◌&&◌, not, List, [], ◌∷◌, codes}
use Rattle.std.specs.Borrow.{Bor}
use Rattle.std.specs.BTreeSet.{BTreeSet}
use Rattle.std.specs.List.{list_any}
use Rattle.json.specs.Json.{Json, null, boolean, number, string, array, object, Items, no_items, item, Members, no_members, member}
use Rattle.json.specs.Strict.{keys}
use Rattle.filing_model.specs.Common.Text.{Text, text_eq}
use Rattle.report_inspection.specs.declared.known_names.ObjectKind.{ObjectKind}
use Rattle.report_inspection.specs.declared.known_names.ObjectKind.TheVariants as kind

-- a name stands among these
abbrev pub is_among : List Text → Text → Bool
is_among names name = list_any (text_eq name) names

-- it stands among them, and again after that
abbrev pub is_repeated : List Text → Text → Bool
is_repeated [] name = false
is_repeated (n ∷ ns) name = (text_eq name n && is_among ns name) || is_repeated ns name

-- it stands more than once in an object of this value, however deep
abbrev mutual
  pub is_repeated_in : Json → Text → Bool
  is_repeated_in null name = false
  is_repeated_in (boolean b) name = false
  is_repeated_in (number s) name = false
  is_repeated_in (string s) name = false
  is_repeated_in (array js) name = is_repeated_in_items js name
  is_repeated_in (object ms) name = is_repeated (keys ms) name || is_repeated_in_values ms name

  pub is_repeated_in_items : Items → Text → Bool
  is_repeated_in_items no_items name = false
  is_repeated_in_items (item j js) name = is_repeated_in j name || is_repeated_in_items js name

  pub is_repeated_in_values : Members → Text → Bool
  is_repeated_in_values no_members name = false
  is_repeated_in_values (member k j ms) name = is_repeated_in j name || is_repeated_in_values ms name

-- of `documentInfo`, the members that a reading looks at; the others that xBRL-JSON 1.0 defines, which it keeps
abbrev pub is_read_in_info : Text → Bool
is_read_in_info name = text_eq name (codes "documentType") ||
    (text_eq name (codes "features") || text_eq name (codes "namespaces"))

abbrev pub is_kept_in_info : Text → Bool
is_kept_in_info name = text_eq name (codes "taxonomy") ||
    (text_eq name (codes "linkTypes") || (text_eq name (codes "linkGroups") || text_eq name (codes "baseURL")))

-- the members that such an object has; of a report and of a fact those that a reading looks at
abbrev pub knows : ObjectKind → Text → Bool
knows kind.Report name = text_eq name (codes "documentInfo") || text_eq name (codes "facts")
knows kind.DocumentInfo name = is_read_in_info name || is_kept_in_info name
knows kind.Fact name = text_eq name (codes "dimensions") ||
    (text_eq name (codes "value") || (text_eq name (codes "decimals") || text_eq name (codes "links")))

-- it stands among the names of the members of such an object, which has no such member
abbrev pub is_unknown : ObjectKind → List Text → Text → Bool
is_unknown kind names name = is_among names name && not (knows kind name)

-- sets of names, in byte order
abbrev pub NameSet : Type 0
NameSet = BTreeSet (Bor Text)

abbrev pub has_name : NameSet → Text → Bool
has_name names name = list_any (λ k. text_eq name k.now) names.keys

-- the names that pass the test are added, and no others
abbrev pub Adds : (Text → Bool) → NameSet → NameSet → Type 0
Adds test before after = (name : Text) → has_name after name ≡ (has_name before name || test name)
