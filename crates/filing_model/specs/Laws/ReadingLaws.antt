-- Laws of what is read and fitted. The project's own.
use Rattle.std.specs.Prelude.{◌≡◌, ◌≤◌, false, codes, List, Option, Some, Ok, IsPermutation}
use Rattle.serde_json.specs.Data.{Data, string, object, Members, depth}
use Rattle.serde_json.specs.Find.{get_member}
use Rattle.serde_json.specs.Read.{read, max_depth}
use Rattle.serde_json.specs.Written.{has_float, compact_text}
use Rattle.filing_model.specs.Common.Text.{Text, text_eq}
use Rattle.filing_model.specs.Oim.Dimensions.{Dims, AreDims, dims_of}
use Rattle.filing_model.specs.Oim.Prefixes.{prefixes_of}
use Rattle.filing_model.specs.Oim.Facts.{RawFact, Fact, Names, Table, fit_of, is_numeric}
use Rattle.filing_model.specs.Oim.Tables.{table_of}
use Rattle.filing_model.specs.Reading.Writing.{raw_of}
use Rattle.filing_model.specs.Reading.ReadReport.{allowed_word}
use Rattle.filing_model.specs.Reading.DeclaredValue.{with_allowed, features_in}
use Rattle.filing_model.specs.declared.duplicates.Allowed.{Allowed}

-- the dimension set of a list, or its fault, does not depend on the list's order
abbrev pub DimsInAnyOrder : Type 0
DimsInAnyOrder = (named other : List (Text × Option Text)) → IsPermutation named other → dims_of named ≡ dims_of other

-- what is made of a list is a dimension set, and a dimension set is made of itself
abbrev pub DimsAgain : Type 0
DimsAgain = ((named : List (Text × Option Text)) (dims : Dims) → dims_of named ≡ Ok dims → AreDims dims)
    × ((dims : Dims) → AreDims dims → dims_of dims ≡ Ok dims)

-- the same of prefixes
abbrev pub PrefixesInAnyOrder : Type 0
PrefixesInAnyOrder = (bound other : List (Text × Text)) → IsPermutation bound other
    → prefixes_of bound ≡ prefixes_of other

-- a numeric table has the rows that it is made of
abbrev pub RowsAreKept : Type 0
RowsAreKept = (rows : Table) (concept : Text × Text) → is_numeric (table_of rows) concept ≡ is_numeric rows concept

-- what is written for a fitted fact fits to the same fact
abbrev pub FactsFitAgain : Type 0
FactsFitAgain = (names : Names) (raw : RawFact) (fact : Fact) → fit_of names raw ≡ Ok fact
    → fit_of names (raw_of fact) ≡ Ok fact

-- of two declared values that are set in a text the last stays
abbrev pub TheLastValueStays : Type 0
TheLastValueStays = (info : Text) (first last : Allowed)
    → with_allowed (with_allowed info first) last ≡ with_allowed info last

-- the info that is made of an object with whole numbers alone is read as an object with the value's word as its
-- feature. The other features and the other members are those that were there
abbrev pub TheOthersStay : Type 0
TheOthersStay = (info : Text) (members : Members) (allowed : Allowed)
    → read info ≡ Some (object members) → has_float (object members) ≡ false
    → (made : Members) × (read (with_allowed info allowed) ≡ Some (object made))
    × (get_member (codes "xbrl:allowedDuplicates") (features_in made) ≡ Some (string (allowed_word allowed)))
    × ((feature : Text) → text_eq feature (codes "xbrl:allowedDuplicates") ≡ false
    → get_member feature (features_in made) ≡ get_member feature (features_in members))
    × ((name : Text) → text_eq name (codes "features") ≡ false → get_member name made ≡ get_member name members)

-- a value with whole numbers alone that was read of a text is read of its compact text again, and nests no deeper than
-- a text may
abbrev pub TextsAreReadAgain : Type 0
TextsAreReadAgain = (text : Text) (d : Data) → read text ≡ Some d → has_float d ≡ false
    → (read (compact_text d) ≡ Some d) × (depth d ≤ max_depth)
