-- JSON texts (RFC 8259), as `serde_json` reads them, and looking into their values.
use Rattle.std.specs.Prelude.{ℕ, ◌<◌, ◌^◌, pos, negsuc, T, if◌then◌else◌, List, [], ◌∷◌, take, drop, Option, Some, None, is_some, option_and_then, ⊤, IsUtf8}
use Rattle.std.specs.Str.{is_utf8}
use Rattle.std.specs.FinMap.Entries.{is_sorted}
use Rattle.serde_json.specs.Data.{Num, unsigned, negative, float, Data, null, boolean, number, string, array, object, Items, no_items, item, Members, no_members, member}
use Rattle.serde_json.specs.Read.{read}
use Rattle.serde_json.specs.Find.{get, as_object}
use Rattle.filing_model.specs.Common.Text.{Text, text_cmp, text_eq}

-- the value of these bytes, if they are a JSON text
unfoldable pub json_of : List ℕ → Option Data
json_of bytes = if is_utf8 bytes then read bytes else None

-- the byte order mark of UTF-8
abbrev pub byte_order_mark : List ℕ
byte_order_mark = 0xef ∷ 0xbb ∷ 0xbf ∷ []

-- the bytes without one byte order mark before them
abbrev pub without_mark : List ℕ → List ℕ
without_mark bytes = if text_eq (take 3 bytes) byte_order_mark then drop 3 bytes else bytes

-- the members of an object with their values, in its order
abbrev pub pairs : Members → List (Text × Data)
pairs no_members = []
pairs (member name d ms) = (name, d) ∷ pairs ms

-- the value, where it is an object
abbrev pub an_object : Data → Option Data
an_object d = if is_some (as_object d) then Some d else None

-- the member of this name, where it is an object
abbrev pub object_at : Text → Data → Option Data
object_at name d = option_and_then an_object (get name d)

-- a text or null
abbrev pub as_nullable : Data → Option (Option Text)
as_nullable null = Some None
as_nullable (string text) = Some (Some text)
as_nullable d = None

-- a whole number that 64 bits hold
abbrev pub IsWhole : Num → Type 0
IsWhole (unsigned n) = n < 2 ^ 64
IsWhole (negative (pos n)) = ⊥
IsWhole (negative (negsuc n)) = n < 2 ^ 63
IsWhole (float x) = ⊥

-- a value that a JSON text with whole numbers alone can have: its texts are UTF-8, and the members of an object strictly rise in byte order
abbrev mutual
  pub IsWritable : Data → Type 0
  IsWritable null = ⊤
  IsWritable (boolean b) = ⊤
  IsWritable (number n) = IsWhole n
  IsWritable (string text) = IsUtf8 text
  IsWritable (array ds) = AreWritable ds
  IsWritable (object ms) = T (is_sorted text_cmp (pairs ms)) × AreMembersWritable ms

  pub AreWritable : Items → Type 0
  AreWritable no_items = ⊤
  AreWritable (item d ds) = IsWritable d × AreWritable ds

  pub AreMembersWritable : Members → Type 0
  AreMembersWritable no_members = ⊤
  AreMembersWritable (member name d ms) = IsUtf8 name × IsWritable d × AreMembersWritable ms
