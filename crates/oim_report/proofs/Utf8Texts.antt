-- The compact text of a writable value is UTF-8; so is what stands behind such a text.
use Rattle.std.proofs.Common.{ℕ, suc, Bool, true, false, pos, negsuc, [], ◌∷◌, ◌++◌, length, IsUtf8, refl, sym, subst, arith, decimal}
use Rattle.std.proofs.lemmas.Fmt.{IsAscii-decimal}
use Rattle.std.proofs.lemmas.List.{length-append}
use Rattle.std.proofs.lemmas.Str.{IsUtf8-append, IsUtf8-nil, IsUtf8-from_ascii, IsUtf8-drop, IsCharBoundary-from_take}
use Rattle.std.proofs.Math.Seq.{drop-append_seam, take-append_seam}
use Rattle.json.specs.Print.{quoted}
use Rattle.json.proofs.Printed.Utf8.{IsUtf8-are_ascii, IsUtf8-quoted, IsUtf8-boolean}
use Rattle.serde_json.specs.Data.{Num, unsigned, negative, float, Data, null, boolean, number, string, array, object, Items, no_items, item, Members, no_members, member}
use Rattle.serde_json.specs.Written.{number_text, comma_if, compact_text, items_text, members_text}
use Rattle.filing_model.specs.Common.Text.{Text}
use Rattle.filing_model.specs.Reading.JsonText.{IsWhole, IsWritable, AreWritable, AreMembersWritable}

utf8_number : (n : Num) → IsWhole n → IsUtf8 (number_text n)
utf8_number (unsigned n) h = IsUtf8-from_ascii (decimal n) (IsAscii-decimal n h)
utf8_number (negative (pos n)) h = absurd h
utf8_number (negative (negsuc n)) h =
    IsUtf8-append (45 ∷ []) (decimal (suc n)) (IsUtf8-are_ascii (45 ∷ []) refl)
    (IsUtf8-from_ascii (decimal (suc n)) (IsAscii-decimal (suc n) (omega arith)))
utf8_number (float x) h = absurd h

utf8_comma : (later : Bool) → IsUtf8 (comma_if later)
utf8_comma true = IsUtf8-are_ascii (44 ∷ []) refl
utf8_comma false = IsUtf8-nil

-- an ASCII byte before a text
utf8_behind : (byte : ℕ) (text : Text) → IsUtf8 (byte ∷ []) → IsUtf8 text → IsUtf8 (byte ∷ text)
utf8_behind byte text first rest = IsUtf8-append (byte ∷ []) text first rest

mutual
  pub IsUtf8-writable : (d : Data) → IsWritable d → IsUtf8 (compact_text d)
  IsUtf8-writable null h = IsUtf8-are_ascii _ refl
  IsUtf8-writable (boolean b) h = IsUtf8-boolean b
  IsUtf8-writable (number n) h = utf8_number n h
  IsUtf8-writable (string text) h = IsUtf8-quoted text h
  IsUtf8-writable (array ds) h = utf8_behind 91 _ (IsUtf8-are_ascii (91 ∷ []) refl) (items_utf8 false ds h)
  IsUtf8-writable (object ms) h = utf8_behind 123 _ (IsUtf8-are_ascii (123 ∷ []) refl) (members_utf8 false ms h.1)

  items_utf8 : (later : Bool) (ds : Items) → AreWritable ds → IsUtf8 (items_text later ds)
  items_utf8 later no_items h = IsUtf8-are_ascii (93 ∷ []) refl
  items_utf8 later (item d ds) h =
      IsUtf8-append (comma_if later) _ (utf8_comma later)
      (IsUtf8-append (compact_text d) _ (IsUtf8-writable d h.0) (items_utf8 true ds h.1))

  members_utf8 : (later : Bool) (ms : Members) → AreMembersWritable ms → IsUtf8 (members_text later ms)
  members_utf8 later no_members h = IsUtf8-are_ascii (125 ∷ []) refl
  members_utf8 later (member k d ms) h =
      IsUtf8-append (comma_if later) _ (utf8_comma later)
      (IsUtf8-append (quoted k) _ (IsUtf8-quoted k h.0)
      (utf8_behind 58 _ (IsUtf8-are_ascii (58 ∷ []) refl)
      (IsUtf8-append (compact_text d) _ (IsUtf8-writable d h.1) (members_utf8 true ms h.2))))

-- what stands behind a text that is UTF-8
utf8_rest : (first rest : Text) → IsUtf8 first → IsUtf8 (first ++ rest) → IsUtf8 rest
utf8_rest first rest is whole =
    let seam = IsCharBoundary-from_take (first ++ rest) (length first) whole (omega (arith, length-append first rest))
    (subst IsUtf8 (sym (take-append_seam first rest)) is) in
    subst IsUtf8 (drop-append_seam first rest) (IsUtf8-drop (first ++ rest) (length first) whole seam)

-- another text may stand between the same two
pub utf8_between : (first middle other rest : Text) → IsUtf8 first → IsUtf8 middle → IsUtf8 other
    → IsUtf8 (first ++ (middle ++ rest)) → IsUtf8 (first ++ (other ++ rest))
utf8_between first middle other rest is between set whole =
    IsUtf8-append first (other ++ rest) is
    (IsUtf8-append other rest set (utf8_rest middle rest between (utf8_rest first (middle ++ rest) is whole)))
