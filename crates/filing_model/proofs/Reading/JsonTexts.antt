-- What `serde_json` says of a reading, as the value of a JSON text.
use Rattle.std.proofs.Common.{◌≡◌, ℕ, Bool, true, false, cond, List, Option, None, Some, IsUtf8, ap, ◌∙◌, refl}
use Rattle.std.specs.Str.{is_utf8}
use Rattle.std.proofs.lemmas.Str.{IsUtf8-from_is_utf8, is_utf8-from_IsUtf8}
use Rattle.serde_json.specs.Data.{unsigned, negative, float, Data, null, boolean, number, string, array, object, Items, no_items, item, Members, no_members, member}
use Rattle.serde_json.specs.Written.{has_float, items_have_float, members_have_float}
use Rattle.std.proofs.lemmas.Bool.{or_from}
use Rattle.serde_json.specs.Read.{read}
use Rattle.filing_model.specs.Reading.JsonText.{json_of, IsWritable, AreWritable, AreMembersWritable}

pub json_of-Some : (bytes : List ℕ) (d : Data) → IsUtf8 bytes × (read bytes ≡ Some d) → json_of bytes ≡ Some d
unfolding json_of
json_of-Some bytes d h = ap (λ b. cond b (read bytes) None) (is_utf8-from_IsUtf8 bytes h.0) ∙ h.1

unless_read : (b : Bool) (o : Option Data) → (b ≡ true → o ≡ None) → cond b o None ≡ None
unless_read true o h = h refl
unless_read false o h = refl

pub json_of-None : (bytes : List ℕ) → (IsUtf8 bytes → read bytes ≡ None) → json_of bytes ≡ None
unfolding json_of
json_of-None bytes h = unless_read (is_utf8 bytes) (read bytes) (λ u. h (IsUtf8-from_is_utf8 bytes u))

-- ---- a writable value has whole numbers alone

mutual
  pub whole-IsWritable : (d : Data) → IsWritable d → has_float d ≡ false
  whole-IsWritable null h = refl
  whole-IsWritable (boolean b) h = refl
  whole-IsWritable (number (unsigned n)) h = refl
  whole-IsWritable (number (negative z)) h = refl
  whole-IsWritable (number (float x)) h = absurd h
  whole-IsWritable (string text) h = refl
  whole-IsWritable (array ds) h = whole-AreWritable ds h
  whole-IsWritable (object ms) h = whole-AreMembersWritable ms h.1

  whole-AreWritable : (ds : Items) → AreWritable ds → items_have_float ds ≡ false
  whole-AreWritable no_items h = refl
  whole-AreWritable (item d ds) h = or_from _ _ (whole-IsWritable d h.0) (whole-AreWritable ds h.1)

  whole-AreMembersWritable : (ms : Members) → AreMembersWritable ms → members_have_float ms ≡ false
  whole-AreMembersWritable no_members h = refl
  whole-AreMembersWritable (member name d ms) h = or_from _ _ (whole-IsWritable d h.1) (whole-AreMembersWritable ms h.2)
