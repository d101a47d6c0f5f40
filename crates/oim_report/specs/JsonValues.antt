-- What every value of a JSON text is, as `serde_json` holds it.
use Rattle.std.specs.Prelude.{◌<◌, ◌^◌, T, pos, negsuc, ⊤, IsUtf8}
use Rattle.std.specs.FinMap.Entries.{is_sorted}
use Rattle.serde_json.specs.Data.{Num, unsigned, negative, float, Data, null, boolean, number, string, array, object, Items, no_items, item, Members, no_members, member}
use Rattle.filing_model.specs.Common.Text.{text_cmp}
use Rattle.filing_model.specs.Reading.JsonText.{pairs}

-- a number is a whole one of 64 bits or a float
abbrev pub IsJsonNumber : Num → Type 0
IsJsonNumber (unsigned n) = n < 2 ^ 64
IsJsonNumber (negative (pos n)) = ⊥
IsJsonNumber (negative (negsuc n)) = n < 2 ^ 63
IsJsonNumber (float x) = ⊤

-- its texts are UTF-8, and the members of an object strictly rise in byte order
abbrev mutual
  pub IsJsonValue : Data → Type 0
  IsJsonValue null = ⊤
  IsJsonValue (boolean b) = ⊤
  IsJsonValue (number n) = IsJsonNumber n
  IsJsonValue (string text) = IsUtf8 text
  IsJsonValue (array ds) = AreJsonValues ds
  IsJsonValue (object ms) = T (is_sorted text_cmp (pairs ms)) × AreJsonMembers ms

  pub AreJsonValues : Items → Type 0
  AreJsonValues no_items = ⊤
  AreJsonValues (item d ds) = IsJsonValue d × AreJsonValues ds

  pub AreJsonMembers : Members → Type 0
  AreJsonMembers no_members = ⊤
  AreJsonMembers (member name d ms) = IsUtf8 name × IsJsonValue d × AreJsonMembers ms
