use Rattle.std.proofs.Common.{◌≡◌, ◌-◌, ◌<◌, [], ◌∷◌, length, Some, None, string_bytes, sym, ap, ap₂, ◌∙◌, arith, rules}
use Rattle.json.specs.Token.{Token}
use Rattle.json.specs.Json.{parse_map, after_end_array, read_key, items, members, value}
use Rattle.json.specs.Reads.{token_of}
use Rattle.json.proofs.Grammar.{value_is, value-begin_array, value-begin_object, read_key-shorter}
use Rattle.serde_json.specs.Data.{null, boolean, number, string, array, object, put, no_members}
use Rattle.serde_json.specs.Read.{of_json, of_items, of_members, converted}
use Rattle.serde_json.specs.View.{view, number_view, items_view, members_view}
use Rattle.serde_json.specs.declared.value.Value.{String, Number, Bool, Null, the_lemmas}
use Rattle.serde_json.proofs.Views.{view-Array, view-Object, members_view-insert_entry}
use Rattle.script_format.proofs.ReadValues.{converted-array, converted-object, item_read, item_refused, items_over, member_read, member_refused, key_refused, members_over, items_before, items_before-no_items, one_more_item, none_before}
use Rattle.script_format.proofs.line_value.+read.Goals as goal

pub read_items-items-init : goal.read_items-items-init
read_items-items-init t c =
    let all = converted of_items (items (value c.args.depth) (length c.args.reader.now) c.args.reader.now) in
    (length c.args.reader.now, omega arith, none_before all ∙ ap (λ vs. parse_map (items_before vs) all) (sym c.in_ok-found.ensures), omega arith)

pub read_members-members-init : goal.read_members-members-init
read_members-members-init t c =
    let all = members (value c.args.depth) (length c.args.reader.now) c.args.reader.now in
    (length c.args.reader.now, omega arith, ap (λ es. converted (λ ms. of_members ms (members_view es)) all) (sym c.new-found.ensures.empty), omega arith)

pub read_items-returns-clause-value : goal.read_items-returns-clause-value
read_items-returns-clause-value t c =
    let p = value c.args.depth in
    let l = c.items in
    let n = l.invariant.0 in
    let r = c.take_end_array.new.self in
    l.invariant.2 ∙ ap (parse_map (items_before l.found.items)) (items_over p n l.reader r l.invariant.1 (grind arith)) ∙ ap (λ ds. Some (ds, r)) (items_before-no_items l.found.items)

pub read_members-returns-in_default-clause-value : goal.read_members-returns-in_default-clause-value
read_members-returns-in_default-clause-value t c =
    let p = value c.args.depth in
    let l = c.members in
    let n = l.invariant.0 in
    l.invariant.2 ∙ key_refused p (members_view l.found.entries) n l.reader c.in_default.ensures.value

pub read_members-returns-in_default-next-clause-value : goal.read_members-returns-in_default-next-clause-value
read_members-returns-in_default-next-clause-value t c =
    let p = value c.args.depth in
    let l = c.members in
    let n = l.invariant.0 in
    l.invariant.2 ∙ members_over p (members_view l.found.entries) n l.reader c.next_key.new.self l.invariant.1 (grind arith)

pub read_members-returns-in_default-2-clause-value : goal.read_members-returns-in_default-2-clause-value
read_members-returns-in_default-2-clause-value t c =
    let p = value c.args.depth in
    let l = c.members in
    let n = l.invariant.0 in
    let k = c.in-Some.name.now in
    let s = c.next_key.new.self in
    let named : read_key l.reader ≡ Some (Some k, s) = grind arith in
    let refused : converted of_json (p s) ≡ None = grind arith in
    l.invariant.2 ∙ member_refused p (members_view l.found.entries) n k l.reader s named refused

pub read-returns-in_default-clause-value : goal.read-returns-in_default-clause-value
read-returns-in_default-clause-value t c =
    let empty : c.args.reader.now ≡ [] = grind arith in
    ap (converted of_json) (ap (value c.args.depth) empty ∙ value_is c.args.depth [])

pub read-returns-then-depth-eq0-clause-value : goal.read-returns-then-depth-eq0-clause-value
unfolding value
read-returns-then-depth-eq0-clause-value t c =
    let first : c.args.reader.now ≡ token_of c.in-Some.token ∷ c.next.new.self = grind arith in
    let none : c.args.depth ≡ 0 = omega arith in
    ap (converted of_json) (ap₂ value none (first ∙ ap (λ k. token_of k ∷ c.next.new.self) c.in-BeginArray.is))

pub read-returns-then-depth-eq0-2-clause-value : goal.read-returns-then-depth-eq0-2-clause-value
unfolding value
read-returns-then-depth-eq0-2-clause-value t c =
    let first : c.args.reader.now ≡ token_of c.in-Some.token ∷ c.next.new.self = grind arith in
    let none : c.args.depth ≡ 0 = omega arith in
    ap (converted of_json) (ap₂ value none (first ∙ ap (λ k. token_of k ∷ c.next.new.self) c.in-BeginObject.is))

pub read-returns-in_ok-from_str-in-String-clause-value : goal.read-returns-in_ok-from_str-in-String-clause-value
read-returns-in_ok-from_str-in-String-clause-value t c =
    let first : c.args.reader.now ≡ token_of c.in-Some.token ∷ c.next.new.self = grind arith in
    let is : c.args.reader.now ≡ Token.string c.in-String.text.now ∷ c.next.new.self = grind (arith, first) in
    let seen : view (String c.in_ok-from_str-in-String.field-0) ≡ string c.in-String.text.now = search (rules, the_lemmas) in
    ap (converted of_json) (ap (value c.args.depth) is ∙ value_is c.args.depth _) ∙ ap (λ d. Some (d, c.next.new.self)) (sym seen)

pub read-returns-in-Some-number-clause-value : goal.read-returns-in-Some-number-clause-value
read-returns-in-Some-number-clause-value t c =
    let first : c.args.reader.now ≡ token_of c.in-Some.token ∷ c.next.new.self = grind arith in
    let is : c.args.reader.now ≡ Token.number c.in-Number.text.now ∷ c.next.new.self = grind (arith, first) in
    let seen : view (Number c.in-Some-number.number) ≡ number (number_view c.in-Some-number.number) = search (rules, the_lemmas) in
    ap (converted of_json) (ap (value c.args.depth) is ∙ value_is c.args.depth _) ∙ rw (← c.in-Some-number.ensures, seen)

pub read-returns-in-None-clause-value : goal.read-returns-in-None-clause-value
read-returns-in-None-clause-value t c =
    let first : c.args.reader.now ≡ token_of c.in-Some.token ∷ c.next.new.self = grind arith in
    let is : c.args.reader.now ≡ Token.number c.in-Number.text.now ∷ c.next.new.self = grind (arith, first) in
    ap (converted of_json) (ap (value c.args.depth) is ∙ value_is c.args.depth _) ∙ rw (← c.in-None.ensures)

pub read-returns-in-Bool-clause-value : goal.read-returns-in-Bool-clause-value
read-returns-in-Bool-clause-value t c =
    let first : c.args.reader.now ≡ token_of c.in-Some.token ∷ c.next.new.self = grind arith in
    let is : c.args.reader.now ≡ Token.boolean c.in-Bool.b ∷ c.next.new.self = grind (arith, first) in
    let seen : view (Bool c.in-Bool.b) ≡ boolean c.in-Bool.b = search (rules, the_lemmas) in
    ap (converted of_json) (ap (value c.args.depth) is ∙ value_is c.args.depth _) ∙ ap (λ d. Some (d, c.next.new.self)) (sym seen)

pub read-returns-in-Null-clause-value : goal.read-returns-in-Null-clause-value
read-returns-in-Null-clause-value t c =
    let first : c.args.reader.now ≡ token_of c.in-Some.token ∷ c.next.new.self = grind arith in
    let is : c.args.reader.now ≡ Token.null ∷ c.next.new.self = grind (arith, first) in
    let seen : view (Null) ≡ null = search (rules, the_lemmas) in
    ap (converted of_json) (ap (value c.args.depth) is ∙ value_is c.args.depth _) ∙ ap (λ d. Some (d, c.next.new.self)) (sym seen)

pub read-returns-in-EndObject-clause-value : goal.read-returns-in-EndObject-clause-value
read-returns-in-EndObject-clause-value t c =
    let first : c.args.reader.now ≡ token_of c.in-Some.token ∷ c.next.new.self = grind arith in
    let none : value c.args.depth c.args.reader.now ≡ None = rw (value_is c.args.depth c.args.reader.now, first) (grind arith) in
    ap (converted of_json) none

pub read-returns-in-Some-2-clause-value : goal.read-returns-in-Some-2-clause-value
read-returns-in-Some-2-clause-value t c =
    let first : c.args.reader.now ≡ token_of c.in-Some.token ∷ c.next.new.self = grind arith in
    let ts = c.next.new.self in
    let all = items (value (c.args.depth - 1)) (length ts) ts in
    let opened = ap (converted of_json) (ap (value c.args.depth) (first ∙ ap (λ k. token_of k ∷ ts) c.in-BeginArray.is) ∙ value-begin_array c.args.depth ts (omega arith)) ∙ converted-array all in
    let found : converted of_items all ≡ Some (items_view c.in-Some-2.items.items, c.read_items.new.reader) = grind arith in
    opened ∙ ap (parse_map array) found ∙ ap (λ d. Some (d, c.read_items.new.reader)) (sym (view-Array c.in-Some-2.items))

pub read-returns-in-None-2-clause-value : goal.read-returns-in-None-2-clause-value
read-returns-in-None-2-clause-value t c =
    let first : c.args.reader.now ≡ token_of c.in-Some.token ∷ c.next.new.self = grind arith in
    let ts = c.next.new.self in
    let all = items (value (c.args.depth - 1)) (length ts) ts in
    let opened = ap (converted of_json) (ap (value c.args.depth) (first ∙ ap (λ k. token_of k ∷ ts) c.in-BeginArray.is) ∙ value-begin_array c.args.depth ts (omega arith)) ∙ converted-array all in
    let refused : converted of_items all ≡ None = grind arith in
    opened ∙ ap (parse_map array) refused

pub read-returns-in-Some-3-clause-value : goal.read-returns-in-Some-3-clause-value
read-returns-in-Some-3-clause-value t c =
    let first : c.args.reader.now ≡ token_of c.in-Some.token ∷ c.next.new.self = grind arith in
    let ts = c.next.new.self in
    let all = members (value (c.args.depth - 1)) (length ts) ts in
    let opened = ap (converted of_json) (ap (value c.args.depth) (first ∙ ap (λ k. token_of k ∷ ts) c.in-BeginObject.is) ∙ value-begin_object c.args.depth ts (omega arith)) ∙ converted-object all in
    let found : converted (λ ms. of_members ms no_members) all ≡ Some (members_view c.in-Some-3.members.entries, c.read_members.new.reader) = grind arith in
    opened ∙ ap (parse_map object) found ∙ ap (λ d. Some (d, c.read_members.new.reader)) (sym (view-Object c.in-Some-3.members))

pub read-returns-in-None-3-clause-value : goal.read-returns-in-None-3-clause-value
read-returns-in-None-3-clause-value t c =
    let first : c.args.reader.now ≡ token_of c.in-Some.token ∷ c.next.new.self = grind arith in
    let ts = c.next.new.self in
    let all = members (value (c.args.depth - 1)) (length ts) ts in
    let opened = ap (converted of_json) (ap (value c.args.depth) (first ∙ ap (λ k. token_of k ∷ ts) c.in-BeginObject.is) ∙ value-begin_object c.args.depth ts (omega arith)) ∙ converted-object all in
    let refused : converted (λ ms. of_members ms no_members) all ≡ None = grind arith in
    opened ∙ ap (parse_map object) refused

pub read_items-returns-in_default-clause-value : goal.read_items-returns-in_default-clause-value
read_items-returns-in_default-clause-value t c =
    let p = value c.args.depth in
    let l = c.items in
    let n = l.invariant.0 in
    let going : (after_end_array l.reader ≡ None) × (c.take_end_array.new.self ≡ l.reader) = grind arith in
    let refused : converted of_json (p c.take_end_array.new.self) ≡ None = grind arith in
    l.invariant.2 ∙ ap (parse_map (items_before l.found.items)) (item_refused p n l.reader going.0 (rw (← going.1) refused))

pub read_items-items-preserved : goal.read_items-items-preserved
read_items-items-preserved t c =
    let p = value c.args.depth in
    let l = c.items in
    let n = l.invariant.0 in
    let going : (after_end_array l.reader ≡ None) × (c.take_end_array.new.self ≡ l.reader) = grind arith in
    let v = c.in-Some.item in
    let r = c.read.new.reader in
    let done : converted of_json (p c.take_end_array.new.self) ≡ Some (view v, r) = grind arith in
    let shorter : length r < length c.take_end_array.new.self = grind arith in
    let less : length r < length l.reader = rw (← going.1) shorter in
    let turn = item_read p n l.reader r (view v) (omega (arith, l.invariant.1)) going.0 (rw (← going.1) done) in (
      n - 1,
      omega (arith, l.invariant.1),
      l.invariant.2 ∙ ap (parse_map (items_before l.found.items)) turn ∙ one_more_item l.found.items v _
          ∙ ap (λ vs. parse_map (items_before vs) (converted of_items (items p (n - 1) r))) (sym c.in_ok-push.ensures.items),
      omega (arith, l.invariant.3),
    )

pub read_members-members-preserved : goal.read_members-members-preserved
read_members-members-preserved t c =
    let p = value c.args.depth in
    let l = c.members in
    let n = l.invariant.0 in
    let old = members_view l.found.entries in
    let k = c.in-Some.name.now in
    let s = c.next_key.new.self in
    let named : read_key l.reader ≡ Some (Some k, s) = grind arith in
    let v = c.in-Some-2.member in
    let r = c.read.new.reader in
    let done : converted of_json (p s) ≡ Some (view v, r) = grind arith in
    let less = read_key-shorter l.reader (Some k) s named in
    let lesser : length r < length s = grind arith in
    let copied : string_bytes c.in_ok-key.key ≡ k = search rules in
    let inserted : members_view c.insert.new.self.entries ≡ put k (view v) old =
    ap members_view c.in_ok-insert.ensures.entries ∙ members_view-insert_entry l.found.entries c.in_ok-key.key v ∙ ap (λ name. put name (view v) old) copied in (
      n - 1,
      omega (arith, l.invariant.1),
      l.invariant.2 ∙ member_read p old n k l.reader s r (view v) (omega (arith, l.invariant.1)) named done
          ∙ ap (λ found. converted (λ ms. of_members ms found) (members p (n - 1) r)) (sym inserted),
      omega (arith, l.invariant.3),
    )
