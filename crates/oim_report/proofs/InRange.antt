-- Values whose texts are those that were read: whether each number in them is in range, and what stands in them.
use Rattle.std.proofs.Common.{◌≡◌, ◌∙◌, ℕ, zero, suc, ap, sym, refl, Bool, true, false, cond, List, [], ◌∷◌, Option, None, Some, option_map}
use Rattle.std.proofs.Common.{option_and_then, is_some, unwrap_or, bytes_eq, true≢false, Result, Ok, Err, IfOk, MatchOption}
use Rattle.std.proofs.lemmas.Slice.Eq.{bytes_eq-Decides}
use Rattle.json.specs.Json as json
use Rattle.json.specs.Lex.{tokens}
use Rattle.json.specs.Token.{Token}
use Rattle.json.specs.Find as found
use Rattle.serde_json.specs.Data.{Data, null, array, object, number, Items, item, Members, no_members, put}
use Rattle.serde_json.specs.Find.{get, get_member, at, get_item, as_str}
use Rattle.serde_json.specs.Read.{max_depth, of_json, of_items, of_members, number_of, read}
use Rattle.serde_json.specs.View.{view}
use Rattle.serde_json.specs.declared.value.Value.{Value}
use Rattle.serde_json.proofs.Views.{get_member-put, get_member-put_other}
use Rattle.filing_model.specs.Common.Text.{Text}

pub the_value : (o : Option Data) → is_some o ≡ true → o ≡ Some (unwrap_or o null)
the_value None h = absurd (true≢false (sym h))
the_value (Some d) h = refl

kept : {A B : Type 0} (f : A → B) (o : Option A) → is_some (option_map f o) ≡ is_some o
kept f None = refl
kept f (Some x) = refl

-- ---- members

put_any : (o : Option Data) (k : Text) (ms : json.Members) (f g : Members)
    → ((f g : Members) → is_some (of_members ms f) ≡ is_some (of_members ms g))
    → is_some (option_and_then (λ d. of_members ms (put k d f)) o) ≡ is_some (option_and_then (λ d. of_members ms (put k d g)) o)
put_any None k ms f g later = refl
put_any (Some d) k ms f g later = later (put k d f) (put k d g)

-- what was found before decides nothing of it
pub any_found : (ms : json.Members) (f g : Members) → is_some (of_members ms f) ≡ is_some (of_members ms g)
any_found json.no_members f g = refl
any_found (json.member k j ms) f g = put_any (of_json j) k ms f g (any_found ms)

member_in_at : (o : Option Data) (k : Text) (ms : json.Members) (f : Members) → is_some o ≡ true
    → is_some (option_and_then (λ d. of_members ms (put k d f)) o) ≡ is_some (of_members ms f)
member_in_at None k ms f h = absurd (true≢false (sym h))
member_in_at (Some d) k ms f h = any_found ms (put k d f) f

pub member_in : (k : Text) (j : json.Json) (ms : json.Members) (f : Members) → is_some (of_json j) ≡ true
    → is_some (of_members (json.member k j ms) f) ≡ is_some (of_members ms f)
member_in k j ms f h = member_in_at (of_json j) k ms f h

-- ---- what stands at a name

-- what is told of a name by its last member, or by what was found before
abbrev Told : Option json.Json → Option Data → Option Data → Type 0
Told None before after = after ≡ before
Told (Some j) before after = (after ≡ of_json j) × (is_some (of_json j) ≡ true)

told_here : (b : Bool) (name k : Text) (j : json.Json) (d : Data) (f out : Members) → bytes_eq k name ≡ b → of_json j ≡ Some d
    → get_member name out ≡ get_member name (put k d f) → Told (cond b (Some j) None) (get_member name f) (get_member name out)
told_here true name k j d f out same is h =
    (h ∙ ap (λ n. get_member n (put k d f)) (sym ((bytes_eq-Decides k name).0 same)) ∙ get_member-put k d f ∙ sym is, ap is_some is)
told_here false name k j d f out other is h =
    h ∙ get_member-put_other name k d f (λ same. true≢false (sym ((bytes_eq-Decides k name).1 (sym same)) ∙ other))

told_after : (later : Option json.Json) (name k : Text) (j : json.Json) (d : Data) (f out : Members) → of_json j ≡ Some d
    → Told later (get_member name (put k d f)) (get_member name out)
    → Told (found.later_or later (cond (bytes_eq k name) (Some j) None)) (get_member name f) (get_member name out)
told_after None name k j d f out is h = told_here (bytes_eq k name) name k j d f out refl is h
told_after (Some i) name k j d f out is h = h

got_first : (o : Option Data) (name k : Text) (j : json.Json) (ms : json.Members) (f out : Members) → of_json j ≡ o
    → ((f out : Members) → of_members ms f ≡ Some out → Told (found.get_member name ms) (get_member name f) (get_member name out))
    → option_and_then (λ d. of_members ms (put k d f)) o ≡ Some out
    → Told (found.later_or (found.get_member name ms) (cond (bytes_eq k name) (Some j) None)) (get_member name f) (get_member name out)
got_first None name k j ms f out is later h = absurd (cc)
got_first (Some d) name k j ms f out is later h =
    told_after (found.get_member name ms) name k j d f out is (later (put k d f) out h)

got_member : (name : Text) (ms : json.Members) (f out : Members) → of_members ms f ≡ Some out
    → Told (found.get_member name ms) (get_member name f) (get_member name out)
got_member name json.no_members f out h = ap (λ o. get_member name (unwrap_or o f)) (sym h)
got_member name (json.member k j ms) f out h = got_first (of_json j) name k j ms f out refl (got_member name ms) h

told_value : (o : Option json.Json) (after : Option Data) → Told o None after → after ≡ option_and_then of_json o
told_value None after h = h
told_value (Some j) after h = h.0

in_told : (o : Option json.Json) (before after : Option Data) (m : json.Json) → Told o before after → o ≡ Some m → is_some (of_json m) ≡ true
in_told None before after m h is = absurd (cc)
in_told (Some j) before after m h is = ap (λ o. is_some (of_json (unwrap_or o j))) (sym is) ∙ h.1

in_members : (name : Text) (ms : json.Members) (m : json.Json) (o : Option Members) → of_members ms no_members ≡ o → is_some o ≡ true
    → found.get_member name ms ≡ Some m → is_some (of_json m) ≡ true
in_members name ms m None h some is = absurd (true≢false (sym some))
in_members name ms m (Some out) h some is = in_told (found.get_member name ms) _ _ m (got_member name ms no_members out h) is

-- a member of a value in range is in range
pub part_in : (name : Text) (j m : json.Json) → is_some (of_json j) ≡ true → found.get name j ≡ Some m → is_some (of_json m) ≡ true
part_in name json.null m some is = absurd (cc)
part_in name (json.boolean b) m some is = absurd (cc)
part_in name (json.number s) m some is = absurd (cc)
part_in name (json.string s) m some is = absurd (cc)
part_in name (json.array js) m some is = absurd (cc)
part_in name (json.object ms) m some is = in_members name ms m (of_members ms no_members) refl (sym (kept object (of_members ms no_members)) ∙ some) is

get_of_object : (name : Text) (ms : json.Members) (o : Option Members) (d : Data) → of_members ms no_members ≡ o → option_map object o ≡ Some d
    → get name d ≡ option_and_then of_json (found.get_member name ms)
get_of_object name ms None d is h = absurd (cc)
get_of_object name ms (Some out) d is h =
    ap (λ o. get name (unwrap_or o d)) (sym h) ∙ told_value (found.get_member name ms) (get_member name out) (got_member name ms no_members out is)

get_of_array : (name : Text) (o : Option Items) (d : Data) → option_map array o ≡ Some d → get name d ≡ None
get_of_array name None d h = absurd (cc)
get_of_array name (Some ds) d h = ap (λ o. get name (unwrap_or o d)) (sym h)

-- the member of a name is the last of that name
pub get_of : (name : Text) (j : json.Json) (d : Data) → of_json j ≡ Some d → get name d ≡ option_and_then of_json (found.get name j)
get_of name json.null d h = ap (λ o. get name (unwrap_or o d)) (sym h)
get_of name (json.boolean b) d h = ap (λ o. get name (unwrap_or o d)) (sym h)
get_of name (json.number s) d h = get_of_number (number_of s) h
  where
    get_of_number : (o : Option _) → option_map number o ≡ Some d → get name d ≡ None
    get_of_number None h = absurd (cc)
    get_of_number (Some n) h = ap (λ o. get name (unwrap_or o d)) (sym h)
get_of name (json.string s) d h = ap (λ o. get name (unwrap_or o d)) (sym h)
get_of name (json.array js) d h = get_of_array name (of_items js) d h
get_of name (json.object ms) d h = get_of_object name ms (of_members ms no_members) d refl h

-- ---- the value of a whole text

abbrev over : Option (json.Json × List Token) → Option Data
over o = option_and_then of_json (option_and_then (λ p. json.if_last p.0 p.1) o)

pub read_whole : (text : Text) (ts rest : List Token) (j : json.Json) → ts ≡ tokens text → json.value max_depth ts ≡ Some (j, rest) → rest ≡ []
    → read text ≡ of_json j
read_whole text ts rest j of h last = ap (λ ts. over (json.value max_depth ts)) (sym of) ∙ ap over h ∙ ap (λ ts. option_and_then of_json (json.if_last j ts)) last

pub read_on : (text : Text) (ts rest more : List Token) (t : Token) (j : json.Json) → ts ≡ tokens text → json.value max_depth ts ≡ Some (j, rest)
    → rest ≡ t ∷ more → read text ≡ None
read_on text ts rest more t j of h is = ap (λ ts. over (json.value max_depth ts)) (sym of) ∙ ap over h ∙ ap (λ ts. option_and_then of_json (json.if_last j ts)) is

pub read_none : (text : Text) (ts : List Token) → ts ≡ tokens text → json.value max_depth ts ≡ None → read text ≡ None
read_none text ts of h = ap (λ ts. over (json.value max_depth ts)) (sym of) ∙ ap over h

-- where a value is out of range, it is none
pub no_value : (o : Option Data) → is_some o ≡ false → o ≡ None
no_value None h = refl
no_value (Some d) h = absurd (true≢false h)

-- what was copied of a part is that part
pub copied_at : {E : Type 0} (result : Result (Option Value) E) (o p : Option Data) → o ≡ p
    → IfOk result (λ copy. option_map view copy ≡ o) → IfOk result (λ copy. option_map view copy ≡ p)
copied_at (Ok copy) o p same h = h ∙ same
copied_at (Err e) o p same h = tt

pub read_more : {T : Type 0} (o : Option T) (token : T → Token) (P : Type 0) (text : Text) (ts rest next : List Token) (j : json.Json)
    → is_some o ≡ true → MatchOption o P (λ t. rest ≡ token t ∷ next) → ts ≡ tokens text → json.value max_depth ts ≡ Some (j, rest)
    → read text ≡ None
read_more None token P text ts rest next j is more of h = absurd (true≢false (sym is))
read_more (Some t) token P text ts rest next j is more of h = read_on text ts rest next (token t) j of h more

-- ---- what stands at a place of an array

item_parts_at : (o : Option Data) (js : json.Items) → is_some (option_and_then (λ d. option_map (item d) (of_items js)) o) ≡ true
    → (is_some o ≡ true) × (is_some (of_items js) ≡ true)
item_parts_at None js h = absurd (true≢false (sym h))
item_parts_at (Some d) js h = (refl, sym (kept (item d) (of_items js)) ∙ h)

item_in_range : (i : ℕ) (js : json.Items) (m : json.Json) → is_some (of_items js) ≡ true → found.get_item i js ≡ Some m → is_some (of_json m) ≡ true
item_in_range i json.no_items m some is = absurd (cc)
item_in_range zero (json.item j js) m some is =
    ap (λ o. is_some (of_json (unwrap_or o j))) (sym is) ∙ (item_parts_at (of_json j) js some).0
item_in_range (suc i) (json.item j js) m some is = item_in_range i js m (item_parts_at (of_json j) js some).1 is

-- a part of an array in range is in range
pub place_in : (i : ℕ) (j m : json.Json) → is_some (of_json j) ≡ true → found.at i j ≡ Some m → is_some (of_json m) ≡ true
place_in i json.null m some is = absurd (cc)
place_in i (json.boolean b) m some is = absurd (cc)
place_in i (json.number s) m some is = absurd (cc)
place_in i (json.string s) m some is = absurd (cc)
place_in i (json.array js) m some is = item_in_range i js m (sym (kept array (of_items js)) ∙ some) is
place_in i (json.object ms) m some is = absurd (cc)

item_at_by : (i : ℕ) (j : json.Json) (js : json.Items) (o : Option Data) (os : Option Items) (ds : Items) → of_json j ≡ o → of_items js ≡ os
    → ((i : ℕ) (ds : Items) → of_items js ≡ Some ds → get_item i ds ≡ option_and_then of_json (found.get_item i js))
    → option_and_then (λ d. option_map (item d) os) o ≡ Some ds → get_item i ds ≡ option_and_then of_json (found.get_item i (json.item j js))
item_at_by i j js None os ds is are later h = absurd (cc)
item_at_by i j js (Some d) None ds is are later h = absurd (cc)
item_at_by zero j js (Some d) (Some es) ds is are later h = ap (λ o. get_item zero (unwrap_or o ds)) (sym h) ∙ sym is
item_at_by (suc i) j js (Some d) (Some es) ds is are later h = ap (λ o. get_item (suc i) (unwrap_or o ds)) (sym h) ∙ later i es are

item_at : (js : json.Items) (i : ℕ) (ds : Items) → of_items js ≡ Some ds → get_item i ds ≡ option_and_then of_json (found.get_item i js)
item_at json.no_items i ds h = ap (λ o. get_item i (unwrap_or o ds)) (sym h)
item_at (json.item j js) i ds h = item_at_by i j js (of_json j) (of_items js) ds refl refl (item_at js) h

at_of_array : (i : ℕ) (js : json.Items) (o : Option Items) (d : Data) → of_items js ≡ o → option_map array o ≡ Some d
    → at i d ≡ option_and_then of_json (found.get_item i js)
at_of_array i js None d is h = absurd (cc)
at_of_array i js (Some ds) d is h = ap (λ o. at i (unwrap_or o d)) (sym h) ∙ item_at js i ds is

pub at_of : (i : ℕ) (j : json.Json) (d : Data) → of_json j ≡ Some d → at i d ≡ option_and_then of_json (found.at i j)
at_of i json.null d h = ap (λ o. at i (unwrap_or o d)) (sym h)
at_of i (json.boolean b) d h = ap (λ o. at i (unwrap_or o d)) (sym h)
at_of i (json.number s) d h = at_of_number (number_of s) h
  where
    at_of_number : (o : Option _) → option_map number o ≡ Some d → at i d ≡ None
    at_of_number None h = absurd (cc)
    at_of_number (Some n) h = ap (λ o. at i (unwrap_or o d)) (sym h)
at_of i (json.string s) d h = ap (λ o. at i (unwrap_or o d)) (sym h)
at_of i (json.array js) d h = at_of_array i js (of_items js) d refl h
at_of i (json.object ms) d h = at_of_object (of_members ms no_members) h
  where
    at_of_object : (o : Option Members) → option_map object o ≡ Some d → at i d ≡ None
    at_of_object None h = absurd (cc)
    at_of_object (Some ms) h = ap (λ o. at i (unwrap_or o d)) (sym h)

text_in : (j : json.Json) (t : Text) → found.as_str j ≡ Some t → option_and_then as_str (of_json j) ≡ Some t
text_in json.null t h = absurd (cc)
text_in (json.boolean b) t h = absurd (cc)
text_in (json.number s) t h = absurd (cc)
text_in (json.string s) t h = h
text_in (json.array js) t h = absurd (cc)
text_in (json.object ms) t h = absurd (cc)

-- the text at a place of an array is that of the value
pub text_at_of : (i : ℕ) (j : json.Json) (d : Data) (t : Text) → of_json j ≡ Some d → option_and_then found.as_str (found.at i j) ≡ Some t
    → option_and_then as_str (at i d) ≡ Some t
text_at_of i j d t is h = ap (option_and_then as_str) (at_of i j d is) ∙ by_part (found.at i j) h
  where
    by_part : (o : Option json.Json) → option_and_then found.as_str o ≡ Some t → option_and_then as_str (option_and_then of_json o) ≡ Some t
    by_part None h = absurd (cc)
    by_part (Some m) h = text_in m t h
