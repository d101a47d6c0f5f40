-- The value that one stands for whose texts are those that were read. A numeral stays text there, so it may be out of the range of numbers.
use Rattle.std.specs.Prelude.{Bool, true, ◌&&◌, IsTrue, List, [], ◌∷◌, Option, None, Some, is_some, unwrap_or}
use Rattle.std.specs.Borrow.{Bor}
use Rattle.json.specs.Json as json
use Rattle.json.specs.Value.{value_view}
use Rattle.json.specs.declared.value.Value.{Value as TextValue}
use Rattle.serde_json.specs.Data.{Data, null, Members, no_members, member}
use Rattle.serde_json.specs.Read.{of_json}
use Rattle.filing_model.specs.Common.Text.{Text}

-- each number in it is one of 64 bits or has a finite nearest float
abbrev pub is_in_range : {A : Type 0} → TextValue A → Bool
is_in_range v = is_some (of_json (value_view v))

abbrev pub IsInRange : {A : Type 0} → TextValue A → Type 0
IsInRange v = IsTrue (is_in_range v)

-- the value that it stands for, where it is in range
abbrev pub data_of : {A : Type 0} → TextValue A → Data
data_of v = unwrap_or (of_json (value_view v)) null

-- the members of an object as they were read
abbrev pub read_object : json.Json → Option json.Members
read_object json.null = None
read_object (json.boolean b) = None
read_object (json.number s) = None
read_object (json.string s) = None
read_object (json.array js) = None
read_object (json.object ms) = Some ms

-- a member of an object, with its name where it was read
abbrev pub Place : Type 0 → Type 0
Place A = Bor Text × TextValue A

-- the members that these stand for, in their order
abbrev pub members_at : {A : Type 0} → List (Place A) → Members
members_at [] = no_members
members_at (p ∷ ps) = member p.0.now (data_of p.1) (members_at ps)

abbrev pub are_in_range : {A : Type 0} → List (Place A) → Bool
are_in_range [] = true
are_in_range (p ∷ ps) = is_in_range p.1 && are_in_range ps
