-- Setting a declared value: what is read of the info that is made.
use Rattle.std.proofs.Common.{◌≡◌, ℕ, suc, ◌≤◌, Bool, true, false, cond, true≢false, Option, Some, None, Less, Equal, Greater, refl, sym, ap, ◌∙◌, arith, codes, unwrap_or, Ordering}
use Rattle.std.proofs.lemmas.Cmp.{nat_list_cmp_total, tied_itself}
use Rattle.std.proofs.lemmas.Bool.{or_from, or_parts}
use Rattle.std.proofs.lemmas.Str.{IsUtf8-from_is_utf8}
use Rattle.std.specs.Prelude.{IfSome, IsUtf8}
use Rattle.std.specs.Str.{is_utf8}
use Rattle.std.specs.Option.{option_and_then, option_map_or}
use Rattle.std.specs.Ordering.{match_ordering}
use Rattle.serde_json.specs.Data.{Data, null, boolean, number, string, array, object, Members, no_members, member, put, depth, members_depth}
use Rattle.serde_json.specs.Find.{get_member, as_object, is_float}
use Rattle.serde_json.specs.Read.{read, max_depth}
use Rattle.serde_json.specs.Written.{has_float, items_have_float, members_have_float, compact_text}
use Rattle.serde_json.proofs.Nesting.{depth-read}
use Rattle.serde_json.proofs.Views.{get_member-put, get_member-put_other}
use Rattle.filing_model.specs.Common.Text.{Text, text_cmp, text_eq}
use Rattle.filing_model.specs.Reading.JsonText.{IsWritable, AreMembersWritable}
use Rattle.filing_model.specs.Reading.DeclaredValue.{whole_members, features_in, with_value, declaring, with_allowed}
use Rattle.filing_model.specs.Reading.ReadReport.{allowed_word, allowed_of_word}
use Rattle.filing_model.specs.declared.duplicates.Allowed.{Allowed}
use Rattle.filing_model.specs.declared.duplicates.Allowed.TheVariants.{Never, Complete, Consistent, All}
use Rattle.filing_model.proofs.OnLiterals.{filing_on_literals}
use Rattle.filing_model.proofs.Common.Texts.{text_eq-refl}
use Rattle.filing_model.proofs.Reading.ReadValues.{IsRead, AreMembersRead, IsRead-put, IsRead-read, sorted-put}
use Rattle.filing_model.proofs.Reading.WrittenValues.{Reads-read, read_written}

-- ---- members that are put in

-- of two values at one name the later stays
pub put_twice : (k : Text) (d e : Data) (ms : Members) → put k e (put k d ms) ≡ put k e ms
put_twice k d e no_members = rw (tied_itself nat_list_cmp_total k)
put_twice k d e (member l f ms) =
    elim (text_cmp k l)
    as (λ o. text_cmp k l ≡ o
    → put k e (match_ordering o (member k d (member l f ms)) (member l d ms) (member l f (put k d ms)))
    ≡ match_ordering o (member k e (member l f ms)) (member l e ms) (member l f (put k e ms))) [
      | Less ↦ λ is. rw (tied_itself nat_list_cmp_total k)
      | Equal ↦ λ is. rw is
      | Greater ↦ λ is. rw is (ap (member l f) (put_twice k d e ms))
    ] refl

whole-put : (k : Text) (d : Data) (ms : Members) → has_float d ≡ false → members_have_float ms ≡ false
    → members_have_float (put k d ms) ≡ false
whole-put k d no_members is h = or_from _ _ is refl
whole-put k d (member l e ms) is h =
    let parts = or_parts (has_float e) (members_have_float ms) h in
    elim (text_cmp k l)
    as (λ o. members_have_float (match_ordering o (member k d (member l e ms)) (member l d ms) (member l e (put k d ms))) ≡ false) [
      | Less ↦ or_from _ _ is h
      | Equal ↦ or_from _ _ is parts.1
      | Greater ↦ or_from _ _ parts.0 (whole-put k d ms is parts.1)
    ]

depth-put : (k : Text) (d : Data) (ms : Members) (n : ℕ) → depth d ≤ n → members_depth ms ≤ n → members_depth (put k d ms) ≤ n
depth-put k d no_members n is h = omega arith
depth-put k d (member l e ms) n is h =
    elim (text_cmp k l)
    as (λ o. members_depth (match_ordering o (member k d (member l e ms)) (member l d ms) (member l e (put k d ms))) ≤ n) [
      | Less ↦ omega arith
      | Equal ↦ omega arith
      | Greater ↦ omega (arith, depth-put k d ms n is (omega arith))
    ]

-- ---- values with whole numbers alone, as a text is read, that nest within a bound

record IsSound (most : ℕ) (d : Data) : Type 0 where
  is_read : IsRead d
  whole : has_float d ≡ false
  shallow : depth d ≤ most

sound-put : (most : ℕ) (k : Text) (d : Data) (ms : Members) → IsSound most d → IsSound (suc most) (object ms)
    → IsSound (suc most) (object (put k d ms))
sound-put most k d ms is h = record {
  is_read = IsRead-put k d ms is.is_read h.is_read;
  whole = whole-put k d ms is.whole h.whole;
  shallow = omega (arith, depth-put k d ms most is.shallow (omega (arith, h.shallow)));
}

-- what is found at a name
found_at : (P : Data → Type 0) (o : Ordering) (d : Data) (rest : Option Data) → P d → IfSome rest P
    → IfSome (match_ordering o rest (Some d) rest) P
found_at P Less d rest is h = h
found_at P Equal d rest is h = is
found_at P Greater d rest is h = h

sound_found : (most : ℕ) (k : Text) (ms : Members) → AreMembersRead ms → members_have_float ms ≡ false → members_depth ms ≤ most
    → IfSome (get_member k ms) (IsSound most)
sound_found most k no_members is whole shallow = tt
sound_found most k (member l d ms) is whole shallow =
    let parts = or_parts (has_float d) (members_have_float ms) whole in
    found_at (IsSound most) (text_cmp k l) d (get_member k ms)
    (record { is_read = is.0; whole = parts.0; shallow = omega (arith, shallow) })
    (sound_found most k ms is.1 parts.1 (omega (arith, shallow)))

sound_features : (most : ℕ) (o : Option Data) → IfSome o (IsSound (suc most))
    → IsSound (suc most) (object (unwrap_or (option_and_then as_object o) no_members))
sound_features most (Some (object ms)) h = h
sound_features most None h = record { is_read = (tt, tt); whole = refl; shallow = omega arith }
sound_features most (Some null) h = record { is_read = (tt, tt); whole = refl; shallow = omega arith }
sound_features most (Some (boolean b)) h = record { is_read = (tt, tt); whole = refl; shallow = omega arith }
sound_features most (Some (number n)) h = record { is_read = (tt, tt); whole = refl; shallow = omega arith }
sound_features most (Some (string text)) h = record { is_read = (tt, tt); whole = refl; shallow = omega arith }
sound_features most (Some (array ds)) h = record { is_read = (tt, tt); whole = refl; shallow = omega arith }

sound_declaring : (most : ℕ) (ms : Members) (allowed : Allowed) → IsSound (suc (suc most)) (object ms)
    → IsSound (suc (suc most)) (object (declaring ms allowed))
sound_declaring most ms allowed h =
    let found = sound_found (suc most) (codes "features") ms h.is_read.1 h.whole (omega (arith, h.shallow)) in
    let word : IsSound most (string (allowed_word allowed)) = record { is_read = tt; whole = refl; shallow = omega arith } in
    let features = sound_features most (get_member (codes "features") ms) found in
    let set = sound-put most (codes "xbrl:allowedDuplicates") (string (allowed_word allowed)) (features_in ms) word features in
    sound-put (suc most) (codes "features") (object (with_value (features_in ms) allowed)) ms set h

-- ---- the members of a text

abbrev members_of : Text → Option Members
members_of info = option_and_then whole_members (read info)

abbrev told : Option Members → Text → Allowed → Text
told o info allowed = option_map_or (λ ms. compact_text (object (declaring ms allowed))) o info

neither : (b : Bool) (ms : Members) {P : Type 0} → ◌≡◌ {A = Option Members} (cond b None None) (Some ms) → P
neither true ms h = cc
neither false ms h = cc

if_whole : (b : Bool) (ns ms : Members) → cond b None (Some ns) ≡ Some ms → (b ≡ false) × (ns ≡ ms)
if_whole true ns ms h = cc
if_whole false ns ms h = (refl, cc)

is_object : (d : Data) (ms : Members) → whole_members d ≡ Some ms → (d ≡ object ms) × (has_float d ≡ false)
is_object (object ns) ms h = let both = if_whole (members_have_float ns) ns ms h in (ap object both.1, both.0)
is_object null ms h = cc
is_object (boolean b) ms h = cc
is_object (number n) ms h = neither (is_float n) ms h
is_object (string text) ms h = cc
is_object (array ds) ms h = neither (items_have_float ds) ms h

-- the object that a text is read as
sound_read : (info : Text) (o : Option Data) (ms : Members) → read info ≡ o → option_and_then whole_members o ≡ Some ms
    → (read info ≡ Some (object ms)) × IsSound max_depth (object ms)
sound_read info None ms is h = cc
sound_read info (Some d) ms is h =
    let both = is_object d ms h in
    let same : read info ≡ Some (object ms) = is ∙ ap (λ d. Some d) both.0 in (
      same,
      record {
        is_read = IsRead-read info (object ms) same;
        whole = ap has_float (sym both.0) ∙ both.1;
        shallow = depth-read info (object ms) same;
      },
    )

read_sound : (ms : Members) → IsSound max_depth (object ms) → read (compact_text (object ms)) ≡ Some (object ms)
read_sound ms h = read_written (object ms) (Reads-read (object ms) h.is_read h.whole) h.shallow

whole_object : (ms : Members) → members_have_float ms ≡ false → whole_members (object ms) ≡ Some ms
whole_object ms whole = ap (λ b. cond b None (Some ms)) whole

members_again : (ms : Members) → IsSound max_depth (object ms) → members_of (compact_text (object ms)) ≡ Some ms
members_again ms h = ap (option_and_then whole_members) (read_sound ms h) ∙ whole_object ms h.whole

-- ---- what is set

features_set : (ms : Members) (allowed : Allowed) → features_in (declaring ms allowed) ≡ with_value (features_in ms) allowed
features_set ms allowed =
    ap (λ o. unwrap_or (option_and_then as_object o) no_members)
    (get_member-put (codes "features") (object (with_value (features_in ms) allowed)) ms)

declaring_twice : (ms : Members) (first last : Allowed) → declaring (declaring ms first) last ≡ declaring ms last
declaring_twice ms first last =
    let name = codes "features" in
    let value = codes "xbrl:allowedDuplicates" in
    ap (λ fs. put name (object (with_value fs last)) (declaring ms first)) (features_set ms first)
    ∙ ap (λ fs. put name (object fs) (declaring ms first))
    (put_twice value (string (allowed_word first)) (string (allowed_word last)) (features_in ms))
    ∙ put_twice name (object (with_value (features_in ms) first)) (object (with_value (features_in ms) last)) ms

-- of two values that are set the last stays
pub set_twice : (info : Text) (first last : Allowed) → with_allowed (with_allowed info first) last ≡ with_allowed info last
unfolding with_allowed
set_twice info first last =
    elim (members_of info)
    as (λ o. members_of info ≡ o → told (members_of (told o info first)) (told o info first) last ≡ told o info last) [
      | None ↦ λ is. ap (λ o. told o info last) is
      | Some ms ↦ λ is.
          let sound = sound_declaring 125 ms first (sound_read info (read info) ms refl is).1 in
          ap (λ o. told o (compact_text (object (declaring ms first))) last) (members_again (declaring ms first) sound)
          ∙ ap (λ ms. compact_text (object ms)) (declaring_twice ms first last)
    ] refl

-- the text of an object with whole numbers alone, as a text is read, and the value set
pub set_written : (ms : Members) (allowed : Allowed) → IsRead (object ms) → members_have_float ms ≡ false → depth (object ms) ≤ max_depth
    → with_allowed (compact_text (object ms)) allowed ≡ compact_text (object (declaring ms allowed))
unfolding with_allowed
set_written ms allowed is_read whole shallow =
    ap (λ o. told o (compact_text (object ms)) allowed)
    (members_again ms (record { is_read = is_read; whole = whole; shallow = shallow }))

-- it nests no deeper than the object did, where that has room for features with a word
pub depth_declaring : (most : ℕ) (ms : Members) (allowed : Allowed) → IsRead (object ms) → members_have_float ms ≡ false
    → depth (object ms) ≤ suc (suc most) → depth (object (declaring ms allowed)) ≤ suc (suc most)
depth_declaring most ms allowed is_read whole shallow =
    (sound_declaring most ms allowed (record { is_read = is_read; whole = whole; shallow = shallow })).shallow

-- what is told of a text that is such an object
pub set_in_members : (info : Text) (allowed : Allowed) (ms : Members) → option_and_then whole_members (read info) ≡ Some ms
    → (has_float (object (declaring ms allowed)) ≡ false) × (with_allowed info allowed ≡ compact_text (object (declaring ms allowed)))
unfolding with_allowed
set_in_members info allowed ms is = (
  (sound_declaring 125 ms allowed (sound_read info (read info) ms refl is).1).whole,
  ap (λ o. told o info allowed) is,
)

-- any other text stays
pub set_in_none : (info : Text) (allowed : Allowed) → option_and_then whole_members (read info) ≡ None → with_allowed info allowed ≡ info
unfolding with_allowed
set_in_none info allowed is = ap (λ o. told o info allowed) is

-- what is read of the info that is made
pub read_declaring : (info : Text) (ms : Members) (allowed : Allowed) → read info ≡ Some (object ms) → members_have_float ms ≡ false
    → read (with_allowed info allowed) ≡ Some (object (declaring ms allowed))
unfolding with_allowed
read_declaring info ms allowed is whole =
    let found : members_of info ≡ Some ms = ap (option_and_then whole_members) is ∙ whole_object ms whole in
    ap (λ o. read (told o info allowed)) found
    ∙ read_sound (declaring ms allowed) (sound_declaring 125 ms allowed (sound_read info (read info) ms refl found).1)

-- ---- what stays

differ : (x y : Text) → text_eq x y ≡ false → ¬ (x ≡ y)
differ x y h same = true≢false (sym (text_eq-refl x) ∙ ap (text_eq x) same ∙ h)

-- the other members stay
pub others_declaring : (name : Text) (ms : Members) (allowed : Allowed) → text_eq name (codes "features") ≡ false
    → get_member name (declaring ms allowed) ≡ get_member name ms
others_declaring name ms allowed h =
    get_member-put_other name (codes "features") (object (with_value (features_in ms) allowed)) ms
    (differ name (codes "features") h)

-- the other features stay
pub other_features : (name : Text) (ms : Members) (allowed : Allowed) → text_eq name (codes "xbrl:allowedDuplicates") ≡ false
    → get_member name (features_in (declaring ms allowed)) ≡ get_member name (features_in ms)
other_features name ms allowed h =
    ap (get_member name) (features_set ms allowed)
    ∙ get_member-put_other name (codes "xbrl:allowedDuplicates") (string (allowed_word allowed)) (features_in ms)
    (differ name (codes "xbrl:allowedDuplicates") h)

pub value_declaring : (ms : Members) (allowed : Allowed)
    → get_member (codes "xbrl:allowedDuplicates") (features_in (declaring ms allowed)) ≡ Some (string (allowed_word allowed))
value_declaring ms allowed =
    ap (get_member (codes "xbrl:allowedDuplicates")) (features_set ms allowed)
    ∙ get_member-put (codes "xbrl:allowedDuplicates") (string (allowed_word allowed)) (features_in ms)

-- ---- a writable object stays writable

utf8_text : (text : Text) → is_utf8 text ≡ true → IsUtf8 text
utf8_text text h = IsUtf8-from_is_utf8 text h

members_writable-put : (k : Text) (d : Data) (ms : Members) → IsUtf8 k → IsWritable d → AreMembersWritable ms → AreMembersWritable (put k d ms)
members_writable-put k d no_members utf8 is h = (utf8, is, tt)
members_writable-put k d (member l e ms) utf8 is h =
    elim (text_cmp k l)
    as (λ o. AreMembersWritable (match_ordering o (member k d (member l e ms)) (member l d ms) (member l e (put k d ms)))) [
      | Less ↦ (utf8, is, h)
      | Equal ↦ (h.0, is, h.2)
      | Greater ↦ (h.0, h.1, members_writable-put k d ms utf8 is h.2)
    ]

writable-put : (k : Text) (d : Data) (ms : Members) → IsUtf8 k → IsWritable d → IsWritable (object ms) → IsWritable (object (put k d ms))
writable-put k d ms utf8 is h = (sorted-put k d ms h.0, members_writable-put k d ms utf8 is h.1)

writable_found : (k : Text) (ms : Members) → AreMembersWritable ms → IfSome (get_member k ms) IsWritable
writable_found k no_members h = tt
writable_found k (member l d ms) h = found_at IsWritable (text_cmp k l) d (get_member k ms) h.1 (writable_found k ms h.2)

writable_features : (o : Option Data) → IfSome o IsWritable → IsWritable (object (unwrap_or (option_and_then as_object o) no_members))
writable_features (Some (object ms)) h = h
writable_features None h = (tt, tt)
writable_features (Some null) h = (tt, tt)
writable_features (Some (boolean b)) h = (tt, tt)
writable_features (Some (number n)) h = (tt, tt)
writable_features (Some (string text)) h = (tt, tt)
writable_features (Some (array ds)) h = (tt, tt)

utf8_word : (allowed : Allowed) → IsUtf8 (allowed_word allowed)
unfolding filing_on_literals
utf8_word Never = utf8_text (codes "none") refl
utf8_word Complete = utf8_text (codes "complete") refl
utf8_word Consistent = utf8_text (codes "consistent") refl
utf8_word All = utf8_text (codes "all") refl

pub writable_declaring : (ms : Members) (allowed : Allowed) → IsWritable (object ms) → IsWritable (object (declaring ms allowed))
unfolding filing_on_literals
writable_declaring ms allowed h =
    let features = writable_features (get_member (codes "features") ms) (writable_found (codes "features") ms h.1) in
    let set = writable-put (codes "xbrl:allowedDuplicates") (string (allowed_word allowed)) (features_in ms)
    (utf8_text (codes "xbrl:allowedDuplicates") refl) (utf8_word allowed) features in
    writable-put (codes "features") (object (with_value (features_in ms) allowed)) ms (utf8_text (codes "features") refl) set h

-- the word of a value is read as that value
pub word_read : (allowed : Allowed) → allowed_of_word (allowed_word allowed) ≡ Some allowed
word_read Never = refl
word_read Complete = refl
word_read Consistent = refl
word_read All = refl
