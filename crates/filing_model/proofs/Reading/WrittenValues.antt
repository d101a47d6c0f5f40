-- Values that are read back from their compact text.
use Rattle.std.proofs.Common.{◌≡◌, ℕ, suc, ◌≤◌, ◌<◌, ◌^◌, max, false, true≢false, pos, negsuc, T, List, [], ◌++◌}
use Rattle.std.proofs.Common.{Option, Some, None, option_map, option_and_then, Less, Greater, refl, sym, ap, ◌∙◌}
use Rattle.std.proofs.Common.{arith, append-nil, subst, inl, inr, eq-or-lt_of_le}
use Rattle.std.proofs.lemmas.Cmp.{nat_list_cmp_total}
use Rattle.std.proofs.lemmas.Bool.{or_parts}
use Rattle.std.specs.Prelude.{⊤}
use Rattle.std.specs.Fmt.{digits, signed_decimal}
use Rattle.std.specs.Ordering.{ordering_reverse}
use Rattle.std.specs.FinMap.Entries.{is_sorted, below_all}
use Rattle.json.specs.Token.{Token}
use Rattle.json.specs.Lex.{tokens}
use Rattle.json.specs.Print.{IsNumber}
use Rattle.json.specs.Word.{after_number}
use Rattle.json.specs.Json as json
use Rattle.json.specs.Tree.{json_tokens, HasNumbers, ItemsHaveNumbers, MembersHaveNumbers}
use Rattle.json.specs.Tree as tree
use Rattle.json.proofs.Printed.Decimals.{IsNumber-decimal, IsNumber-signed_decimal}
use Rattle.json.proofs.Printed.Tokens.{tokens-print}
use Rattle.json.proofs.Printed.Trees.{value-json_tokens, ArePrintable-json_tokens}
use Rattle.serde_json.specs.Data.{Num, unsigned, negative, float, Data, null, boolean, number, string, array}
use Rattle.serde_json.specs.Data.{object, Items, no_items, item, Members, no_members, member, put, depth}
use Rattle.serde_json.specs.Data.{items_depth, members_depth}
use Rattle.serde_json.specs.Find.{is_float}
use Rattle.serde_json.specs.Read.{of_json, of_items, of_members, number_of, max_depth, read}
use Rattle.serde_json.specs.Written.{outline, items_outline, members_outline, number_text, compact_text, has_float, items_have_float, members_have_float}
use Rattle.serde_json.proofs.Nesting.{depth-read}
use Rattle.serde_json.proofs.Numbers.{number_of-decimal, number_of-negative}
use Rattle.serde_json.proofs.Texts.{print-outline}
use Rattle.filing_model.specs.Common.Text.{Text, text_cmp}
use Rattle.filing_model.specs.Reading.JsonText.{pairs, IsWhole, IsWritable}
use Rattle.filing_model.proofs.Reading.JsonTexts.{whole-IsWritable}
use Rattle.filing_model.proofs.Reading.ReadValues.{IsBounded, IsRead, AreRead, AreMembersRead, IsRead-writable, IsRead-read}
use Rattle.filing_model.proofs.Common.Tests.{first_holds, second_holds, less_from_is_lt}

-- what is written for the value stands for it
pub record Reads (d : Data) : Type 0 where
  pub numbers : HasNumbers (outline d)
  pub back : of_json (outline d) ≡ Some d

pub record ItemsRead (ds : Items) : Type 0 where
  pub numbers : ItemsHaveNumbers (items_outline ds)
  pub back : of_items (items_outline ds) ≡ Some ds

abbrev pub EachReads : Members → Type 0
EachReads no_members = ⊤
EachReads (member k d ms) = Reads d × EachReads ms

-- ---- whole numbers

IsNumber-least : IsNumber (signed_decimal (negsuc 9223372036854775807))
unfolding after_number digits
IsNumber-least = refl

IsNumber-negative : (n : ℕ) → n < 2 ^ 63 → IsNumber (signed_decimal (negsuc n))
IsNumber-negative n h =
    let most : n ≤ 9223372036854775807 = omega arith in
    elim (eq-or-lt_of_le most) [
      | inl is ↦ subst (λ n. IsNumber (signed_decimal (negsuc n))) (sym is) IsNumber-least
      | inr below ↦ IsNumber-signed_decimal (negsuc n) (omega arith)
    ]

IsNumber-whole : (n : Num) → IsWhole n → IsNumber (number_text n)
IsNumber-whole (unsigned n) h = IsNumber-decimal n h
IsNumber-whole (negative (pos n)) h = absurd h
IsNumber-whole (negative (negsuc n)) h = IsNumber-negative n h
IsNumber-whole (float x) h = absurd h

number_of-whole : (n : Num) → IsWhole n → number_of (number_text n) ≡ Some n
number_of-whole (unsigned n) h = number_of-decimal n h
number_of-whole (negative (pos n)) h = absurd h
number_of-whole (negative (negsuc n)) h = number_of-negative n h
number_of-whole (float x) h = absurd h

pub Reads-number : (n : Num) → IsWhole n → Reads (number n)
Reads-number n h = record { numbers = IsNumber-whole n h; back = ap (option_map number) (number_of-whole n h) }

-- ---- members in byte order of their names

-- the first members, and then the others
abbrev joined : Members → Members → Members
joined no_members ms = ms
joined (member k d ns) ms = member k d (joined ns ms)

joined_more : (ns : Members) (k : Text) (d : Data) (ms : Members) → joined (joined ns (member k d no_members)) ms ≡ joined ns (member k d ms)
joined_more no_members k d ms = refl
joined_more (member l e ns) k d ms = ap (member l e) (joined_more ns k d ms)

joined_none : (ns : Members) → joined ns no_members ≡ ns
joined_none no_members = refl
joined_none (member k d ns) = ap (member k d) (joined_none ns)

-- each name of the first is less than this one
abbrev AllBefore : Members → Text → Type 0
AllBefore no_members k = ⊤
AllBefore (member l e ns) k = (text_cmp l k ≡ Less) × AllBefore ns k

put_last : (ns : Members) (k : Text) (d : Data) → AllBefore ns k → put k d ns ≡ joined ns (member k d no_members)
put_last no_members k d h = refl
put_last (member l e ns) k d h =
    let above : text_cmp k l ≡ Greater = nat_list_cmp_total.antisymm k l ∙ ap ordering_reverse h.0 in
    rw above (ap (member l e) (put_last ns k d h.1))

-- each name of the first is less than each of the others
abbrev Precede : Members → Members → Type 0
Precede ns no_members = ⊤
Precede ns (member k d ms) = AllBefore ns k × Precede ns ms

before_more : (ns : Members) (l : Text) (e : Data) (k : Text) → AllBefore ns k → text_cmp l k ≡ Less → AllBefore (joined ns (member l e no_members)) k
before_more no_members l e k h below = (below, tt)
before_more (member m f ns) l e k h below = (h.0, before_more ns l e k h.1 below)

precede_more : (ns : Members) (l : Text) (e : Data) (ms : Members) → Precede ns ms → T (below_all text_cmp l (pairs ms))
    → Precede (joined ns (member l e no_members)) ms
precede_more ns l e no_members h below = tt
precede_more ns l e (member k d ms) h below =
    (before_more ns l e k h.0 (less_from_is_lt _ (first_holds _ _ below)), precede_more ns l e ms h.1 (second_holds _ _ below))

members_back : (ns ms : Members) → Precede ns ms → T (is_sorted text_cmp (pairs ms)) → EachReads ms
    → of_members (members_outline ms) ns ≡ Some (joined ns ms)
members_back ns no_members h sorted each = ap Some (sym (joined_none ns))
members_back ns (member k d ms) h sorted each =
    ap (option_and_then (λ d. of_members (members_outline ms) (put k d ns))) each.0.back
    ∙ ap (of_members (members_outline ms)) (put_last ns k d h.0)
    ∙ members_back (joined ns (member k d no_members)) ms (precede_more ns k d ms h.1 (first_holds _ _ sorted)) (second_holds _ _ sorted) each.1
    ∙ ap Some (joined_more ns k d ms)

none_precede : (ms : Members) → Precede no_members ms
none_precede no_members = tt
none_precede (member k d ms) = (tt, none_precede ms)

members_numbers : (ms : Members) → EachReads ms → MembersHaveNumbers (members_outline ms)
members_numbers no_members h = tt
members_numbers (member k d ms) h = (h.0.numbers, members_numbers ms h.1)

pub Reads-object : (ms : Members) → T (is_sorted text_cmp (pairs ms)) → EachReads ms → Reads (object ms)
Reads-object ms sorted each =
    record {
      numbers = members_numbers ms each;
      back = ap (option_map object) (members_back no_members ms (none_precede ms) sorted each);
    }

-- ---- values with whole numbers alone, as a text is read

whole_number : (n : Num) → IsBounded n → is_float n ≡ false → IsWhole n
whole_number (unsigned n) h whole = h
whole_number (negative (pos n)) h whole = absurd h
whole_number (negative (negsuc n)) h whole = h
whole_number (float x) h whole = absurd (true≢false whole)

mutual
  pub Reads-read : (d : Data) → IsRead d → has_float d ≡ false → Reads d
  Reads-read null h whole = record { numbers = tt; back = refl }
  Reads-read (boolean b) h whole = record { numbers = tt; back = refl }
  Reads-read (number n) h whole = Reads-number n (whole_number n h whole)
  Reads-read (string text) h whole = record { numbers = tt; back = refl }
  Reads-read (array ds) h whole = let items = ItemsRead-read ds h whole in record { numbers = items.numbers; back = ap (option_map array) items.back }
  Reads-read (object ms) h whole = Reads-object ms h.0 (EachReads-read ms h.1 whole)

  ItemsRead-read : (ds : Items) → AreRead ds → items_have_float ds ≡ false → ItemsRead ds
  ItemsRead-read no_items h whole = record { numbers = tt; back = refl }
  ItemsRead-read (item d ds) h whole =
      let parts = or_parts (has_float d) _ whole in
      let first = Reads-read d h.0 parts.0 in
      let rest = ItemsRead-read ds h.1 parts.1 in
      record {
        numbers = (first.numbers, rest.numbers);
        back = ap (option_and_then (λ d. option_map (item d) (of_items (items_outline ds)))) first.back ∙ ap (option_map (item d)) rest.back;
      }

  EachReads-read : (ms : Members) → AreMembersRead ms → members_have_float ms ≡ false → EachReads ms
  EachReads-read no_members h whole = tt
  EachReads-read (member name d ms) h whole =
      let parts = or_parts (has_float d) _ whole in
      (Reads-read d h.0 parts.0, EachReads-read ms h.1 parts.1)

-- a writable value is one
pub Reads-writable : (d : Data) → IsWritable d → Reads d
Reads-writable d h = Reads-read d (IsRead-writable d h) (whole-IsWritable d h)

-- ---- the text of a value, and what is read of it

mutual
  pub outline_depth : (d : Data) → tree.depth (outline d) ≡ depth d
  outline_depth null = refl
  outline_depth (boolean b) = refl
  outline_depth (number n) = refl
  outline_depth (string text) = refl
  outline_depth (array ds) = ap suc (items_outline_depth ds)
  outline_depth (object ms) = ap suc (members_outline_depth ms)

  items_outline_depth : (ds : Items) → tree.items_depth (items_outline ds) ≡ items_depth ds
  items_outline_depth no_items = refl
  items_outline_depth (item d ds) = λ i. max (outline_depth d i) (items_outline_depth ds i)

  members_outline_depth : (ms : Members) → tree.members_depth (members_outline ms) ≡ members_depth ms
  members_outline_depth no_members = refl
  members_outline_depth (member k d ms) = λ i. max (outline_depth d i) (members_outline_depth ms i)

-- the tokens of the text are those of the value's outline
pub written_tokens : (d : Data) → Reads d → tokens (compact_text d) ≡ json_tokens (outline d)
written_tokens d reads =
    ap tokens (sym (print-outline d)) ∙ tokens-print (json_tokens (outline d)) (ArePrintable-json_tokens (outline d) reads.numbers)

-- the outline is read to its end, where it nests no deeper than a reader goes
pub outline_back : (d : Data) (text : Text) → Reads d → tokens text ≡ json_tokens (outline d) → tree.depth (outline d) ≤ max_depth
    → read text ≡ Some d
outline_back d text reads written shallow =
    let value : json.value max_depth (tokens text) ≡ Some (outline d, []) =
    ap (json.value max_depth) (written ∙ sym (append-nil (json_tokens (outline d))))
    ∙ value-json_tokens (outline d) max_depth [] shallow in
    ap (λ o. option_and_then of_json (option_and_then (λ p. json.if_last p.0 p.1) o)) value ∙ reads.back

pub read_written : (d : Data) → Reads d → depth d ≤ max_depth → read (compact_text d) ≡ Some d
read_written d reads shallow =
    outline_back d (compact_text d) reads (written_tokens d reads) (omega (arith, outline_depth d))

-- what was read of a text is read of its compact text again
pub read_again : (text : Text) (d : Data) → read text ≡ Some d → has_float d ≡ false
    → (read (compact_text d) ≡ Some d) × (depth d ≤ max_depth)
read_again text d is whole =
    let shallow = depth-read text d is in
    (read_written d (Reads-read d (IsRead-read text d is) whole) shallow, shallow)

-- the tokens of a value are those of no other
pub same_json : (i j : json.Json) → json_tokens i ≡ json_tokens j → i ≡ j
same_json i j h =
    let n = max (tree.depth i) (tree.depth j) in
    let one : json.value n (json_tokens i ++ []) ≡ Some (i, []) = value-json_tokens i n [] (omega arith) in
    let other : json.value n (json_tokens j ++ []) ≡ Some (j, []) = value-json_tokens j n [] (omega arith) in
    let same : ◌≡◌ {A = Option (json.Json × List Token)} (Some (i, [])) (Some (j, [])) = sym one ∙ ap (λ ts. json.value n (ts ++ [])) h ∙ other in
    ap (λ o. elim o as (λ _. json.Json) [ None ↦ i | Some p ↦ p.0 ]) same
