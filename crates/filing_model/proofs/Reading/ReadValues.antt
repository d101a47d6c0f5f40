-- What is read of a JSON text: whole numbers fit 64 bits, and the names of an object's members rise.
use Rattle.std.proofs.Common.{◌≡◌, ℕ, zero, suc, ◌≤◌, ◌<◌, ◌^◌, Bool, true, false, cond, ◌&&◌, nat_lt, nat_le}
use Rattle.std.proofs.Common.{◌==◌, slice_index, drop, pos, negsuc, neg_ℤ, T, ◌∷◌, Option, Some, None, option_map}
use Rattle.std.proofs.Common.{Float, Less, Equal, Greater, refl, sym, ap, arith, subst}
use Rattle.std.proofs.lemmas.Cmp.{nat_list_cmp_total}
use Rattle.std.proofs.lemmas.Bool.{and_parts, ltb-true, leb-true}
use Rattle.std.specs.Prelude.{⊤, IfSome}
use Rattle.std.specs.Option.{option_and_then}
use Rattle.std.specs.Ordering.{match_ordering}
use Rattle.std.specs.Float.Numeral.{Parts, minus, scan_numeral, numeral_digits as digits_of}
use Rattle.std.specs.FinMap.Entries as entries
use Rattle.std.specs.FinMap.Entries.{is_sorted, is_sorted-put, by_order}
use Rattle.json.specs.Json as json
use Rattle.json.specs.Lex.{tokens}
use Rattle.serde_json.specs.Data.{Num, unsigned, negative, float, Data, null, boolean, number, string, array, object, Items, no_items, item, Members, no_members, member, put}
use Rattle.serde_json.specs.Read.{of_json, of_items, of_members, number_of, number_from, float_of, is_integer, read, max_depth}
use Rattle.filing_model.specs.Common.Text.{Text, text_cmp}
use Rattle.filing_model.specs.Reading.JsonText.{pairs, IsWhole, IsWritable, AreWritable, AreMembersWritable}

-- a whole number fits 64 bits
abbrev pub IsBounded : Num → Type 0
IsBounded (unsigned n) = n < 2 ^ 64
IsBounded (negative (pos n)) = ⊥
IsBounded (negative (negsuc n)) = n < 2 ^ 63
IsBounded (float x) = ⊤

abbrev mutual
  pub IsRead : Data → Type 0
  IsRead null = ⊤
  IsRead (boolean b) = ⊤
  IsRead (number n) = IsBounded n
  IsRead (string text) = ⊤
  IsRead (array ds) = AreRead ds
  IsRead (object ms) = T (is_sorted text_cmp (pairs ms)) × AreMembersRead ms

  pub AreRead : Items → Type 0
  AreRead no_items = ⊤
  AreRead (item d ds) = IsRead d × AreRead ds

  pub AreMembersRead : Members → Type 0
  AreMembersRead no_members = ⊤
  AreMembersRead (member name d ms) = IsRead d × AreMembersRead ms

-- ---- a writable value is one

bounded_whole : (n : Num) → IsWhole n → IsBounded n
bounded_whole (unsigned n) h = h
bounded_whole (negative (pos n)) h = absurd h
bounded_whole (negative (negsuc n)) h = h
bounded_whole (float x) h = absurd h

mutual
  pub IsRead-writable : (d : Data) → IsWritable d → IsRead d
  IsRead-writable null h = tt
  IsRead-writable (boolean b) h = tt
  IsRead-writable (number n) h = bounded_whole n h
  IsRead-writable (string text) h = tt
  IsRead-writable (array ds) h = AreRead-writable ds h
  IsRead-writable (object ms) h = (h.0, AreMembersRead-writable ms h.1)

  AreRead-writable : (ds : Items) → AreWritable ds → AreRead ds
  AreRead-writable no_items h = tt
  AreRead-writable (item d ds) h = (IsRead-writable d h.0, AreRead-writable ds h.1)

  AreMembersRead-writable : (ms : Members) → AreMembersWritable ms → AreMembersRead ms
  AreMembersRead-writable no_members h = tt
  AreMembersRead-writable (member name d ms) h = (IsRead-writable d h.1, AreMembersRead-writable ms h.2)

-- ---- numbers

if_float : (b : Bool) (x : Float) → IfSome (cond b (Some (float x)) None) IsBounded
if_float true x = tt
if_float false x = tt

if_unsigned : (b : Bool) (n : ℕ) (other : Option Num) → IfSome other IsBounded
    → IfSome (cond (b && nat_lt n (2 ^ 64)) (Some (unsigned n)) other) IsBounded
if_unsigned b n other h =
    elim (b && nat_lt n (2 ^ 64))
    as (λ c. b && nat_lt n (2 ^ 64) ≡ c → IfSome (cond c (Some (unsigned n)) other) IsBounded) [
      | true ↦ λ is. ltb-true n (2 ^ 64) (and_parts b (nat_lt n (2 ^ 64)) is).1
      | false ↦ λ is. h
    ] refl

bounded_negative : (n : ℕ) → 0 < n → n ≤ 2 ^ 63 → IsBounded (negative (neg_ℤ (pos n)))
bounded_negative zero some most = absurd (omega arith)
bounded_negative (suc n) some most = omega arith

if_negative : (b : Bool) (n : ℕ) (other : Option Num) → IfSome other IsBounded
    → IfSome (cond (b && nat_lt 0 n && nat_le n (2 ^ 63)) (Some (negative (neg_ℤ (pos n)))) other) IsBounded
if_negative b n other h =
    elim (b && nat_lt 0 n && nat_le n (2 ^ 63))
    as (λ c. b && nat_lt 0 n && nat_le n (2 ^ 63) ≡ c
    → IfSome (cond c (Some (negative (neg_ℤ (pos n)))) other) IsBounded) [
      | true ↦ λ is.
          let parts = and_parts (b && nat_lt 0 n) (nat_le n (2 ^ 63)) is in
          bounded_negative n (ltb-true 0 n (and_parts b (nat_lt 0 n) parts.0).1) (leb-true n (2 ^ 63) parts.1)
      | false ↦ λ is. h
    ] refl

bounded_from : (negative : Bool) (p : Parts) → IfSome (number_from negative p) IsBounded
bounded_from false p = if_unsigned (is_integer p) (digits_of p) (float_of false p) (if_float _ _)
bounded_from true p = if_negative (is_integer p) (digits_of p) (float_of true p) (if_float _ _)

either_bounded : (b : Bool) (p q : Parts) → IfSome (cond b (number_from true p) (number_from false q)) IsBounded
either_bounded true p q = bounded_from true p
either_bounded false p q = bounded_from false q

bounded_number : (text : Text) → IfSome (number_of text) IsBounded
unfolding number_of
bounded_number text =
    either_bounded (slice_index text 0 == minus) (scan_numeral (drop 1 text)) (scan_numeral text)

-- ---- members that are put in one after another

pub pairs-put : (k : Text) (d : Data) (ms : Members) → pairs (put k d ms) ≡ entries.put text_cmp k d (pairs ms)
pairs-put k d no_members = refl
pairs-put k d (member l e ms) =
    elim (text_cmp k l)
    as (λ o. pairs (match_ordering o (member k d (member l e ms)) (member l d ms) (member l e (put k d ms)))
    ≡ by_order o ((k, d) ∷ (l, e) ∷ pairs ms) ((l, d) ∷ pairs ms) ((l, e) ∷ entries.put text_cmp k d (pairs ms))) [
      | Less ↦ refl
      | Equal ↦ refl
      | Greater ↦ ap (λ es. (l, e) ∷ es) (pairs-put k d ms)
    ]

-- the names of the members go on to rise
pub sorted-put : (k : Text) (d : Data) (ms : Members) → T (is_sorted text_cmp (pairs ms)) → T (is_sorted text_cmp (pairs (put k d ms)))
sorted-put k d ms h =
    subst T (sym (ap (is_sorted text_cmp) (pairs-put k d ms))) (is_sorted-put text_cmp nat_list_cmp_total k d (pairs ms) h)

members-put : (k : Text) (d : Data) (ms : Members) → IsRead d → AreMembersRead ms → AreMembersRead (put k d ms)
members-put k d no_members is h = (is, tt)
members-put k d (member l e ms) is h =
    elim (text_cmp k l)
    as (λ o. AreMembersRead (match_ordering o (member k d (member l e ms)) (member l d ms) (member l e (put k d ms)))) [
      | Less ↦ (is, h)
      | Equal ↦ (is, h.1)
      | Greater ↦ (h.0, members-put k d ms is h.1)
    ]

pub IsRead-put : (k : Text) (d : Data) (ms : Members) → IsRead d → IsRead (object ms) → IsRead (object (put k d ms))
IsRead-put k d ms is h = (sorted-put k d ms h.0, members-put k d ms is h.1)

-- ---- what a text is read as

if_mapped : {A B : Type 0} (f : A → B) (P : A → Type 0) (Q : B → Type 0) → ((x : A) → P x → Q (f x))
    → (o : Option A) → IfSome o P → IfSome (option_map f o) Q
if_mapped f P Q follows None h = tt
if_mapped f P Q follows (Some x) h = follows x h

if_followed : {A B : Type 0} (f : A → Option B) (P : A → Type 0) (Q : B → Type 0) → ((x : A) → P x → IfSome (f x) Q)
    → (o : Option A) → IfSome o P → IfSome (option_and_then f o) Q
if_followed f P Q follows None h = tt
if_followed f P Q follows (Some x) h = follows x h

mutual
  of_json_read : (j : json.Json) → IfSome (of_json j) IsRead
  of_json_read json.null = tt
  of_json_read (json.boolean b) = tt
  of_json_read (json.number s) = if_mapped number IsBounded IsRead (λ n h. h) (number_of s) (bounded_number s)
  of_json_read (json.string s) = tt
  of_json_read (json.array js) = if_mapped array AreRead IsRead (λ ds h. h) (of_items js) (of_items_read js)
  of_json_read (json.object ms) =
      if_mapped object (λ ms. IsRead (object ms)) IsRead (λ ms h. h) (of_members ms no_members) (of_members_read ms no_members (tt, tt))

  of_items_read : (js : json.Items) → IfSome (of_items js) AreRead
  of_items_read json.no_items = tt
  of_items_read (json.item j js) =
      if_followed (λ d. option_map (item d) (of_items js)) IsRead AreRead
      (λ d first. if_mapped (item d) AreRead AreRead (λ ds rest. (first, rest)) (of_items js) (of_items_read js))
      (of_json j) (of_json_read j)

  of_members_read : (ms : json.Members) (found : Members) → IsRead (object found)
      → IfSome (of_members ms found) (λ ms. IsRead (object ms))
  of_members_read json.no_members found h = h
  of_members_read (json.member k j ms) found h =
      if_followed (λ d. of_members ms (put k d found)) IsRead (λ ms. IsRead (object ms))
      (λ d is. of_members_read ms (put k d found) (IsRead-put k d found is h)) (of_json j) (of_json_read j)

of_some_read : (o : Option json.Json) → IfSome (option_and_then of_json o) IsRead
of_some_read None = tt
of_some_read (Some j) = of_json_read j

pub IsRead-read : (text : Text) (d : Data) → read text ≡ Some d → IsRead d
IsRead-read text d is =
    subst (λ o. IfSome o IsRead) is
    (of_some_read (option_and_then (λ p. json.if_last p.0 p.1) (json.value max_depth (tokens text))))
