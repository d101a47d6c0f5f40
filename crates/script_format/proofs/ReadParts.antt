-- What stands at a place of an array is, in the value that was read, what it stands for.
use Rattle.std.proofs.Common.{◌≡◌, ◌∙◌, ℕ, ap, refl, sym, Bool, true, false, ◌||◌}
use Rattle.std.proofs.Common.{Option, None, Some, is_some, if◌then◌else◌, option_map, option_and_then, unwrap_or}
use Rattle.std.specs.Borrow.{Bor}
use Rattle.std.specs.Bool.{⊤}
use Rattle.json.specs.Json as json
use Rattle.json.specs.Find as found
use Rattle.json.specs.Value.{value_view}
use Rattle.json.specs.declared.value.Value.{Value as TextValue}
use Rattle.serde_json.specs.Data.{Data, Num, null, array, object, number, no_members}
use Rattle.serde_json.specs.Find.{at, as_number, as_object, as_str, as_u64}
use Rattle.serde_json.specs.Read.{number_of, of_items, of_json, of_members}
use Rattle.filing_model.specs.Reading.JsonText.{as_nullable}
use Rattle.filing_model.specs.Sessions.Calls.{Limit, PeriodFilter, limit_of}
use Rattle.filing_model.specs.Common.Text.{Text}
use Rattle.oim_report.specs.Borrowed.{IsInRange, data_of}
use Rattle.oim_report.proofs.InRange.{at_of, place_in, the_value}
use Rattle.script_format.specs.ReadParts as parts
use Rattle.script_format.specs.Loads.{is_report}
use Rattle.script_format.specs.ScriptLines.{◌>>=◌, as_asked, asked_at, ends_at, limit_at, nullable_at, object_at, report_part_at, text_at}

nothing : {A B : Type 0} (g : Data → Option B) (f : A → Data) → ((x : A) → g (f x) ≡ None) → (o : Option A) → option_and_then g (option_map f o) ≡ None
nothing g f none None = refl
nothing g f none (Some x) = none x

-- a text stays one, and nothing else becomes one
same_text : (j : json.Json) → option_and_then as_str (of_json j) ≡ found.as_str j
same_text json.null = refl
same_text (json.boolean b) = refl
same_text (json.number s) = nothing as_str number (λ n. refl) (number_of s)
same_text (json.string s) = refl
same_text (json.array js) = nothing as_str array (λ ds. refl) (of_items js)
same_text (json.object ms) = nothing as_str object (λ ms. refl) (of_members ms no_members)

-- so is a text or null
same_nullable : (j : json.Json) → option_and_then as_nullable (of_json j) ≡ parts.as_nullable j
same_nullable json.null = refl
same_nullable (json.boolean b) = refl
same_nullable (json.number s) = nothing as_nullable number (λ n. refl) (number_of s)
same_nullable (json.string s) = refl
same_nullable (json.array js) = nothing as_nullable array (λ ds. refl) (of_items js)
same_nullable (json.object ms) = nothing as_nullable object (λ ms. refl) (of_members ms no_members)

-- and a period that is asked for
same_asked : (j : json.Json) → option_and_then as_asked (of_json j) ≡ parts.as_asked j
same_asked json.null = refl
same_asked (json.boolean true) = refl
same_asked (json.boolean false) = refl
same_asked (json.number s) = nothing as_asked number (λ n. refl) (number_of s)
same_asked (json.string s) = refl
same_asked (json.array js) = nothing as_asked array (λ ds. refl) (of_items js)
same_asked (json.object ms) = nothing as_asked object (λ ms. refl) (of_members ms no_members)

number_stays : (o : Option Num) → option_and_then as_number (option_map number o) ≡ o
number_stays None = refl
number_stays (Some n) = refl

same_number : (j : json.Json) → option_and_then as_number (of_json j) ≡ option_and_then number_of (found.as_number j)
same_number json.null = refl
same_number (json.boolean b) = refl
same_number (json.number s) = number_stays (number_of s)
same_number (json.string s) = refl
same_number (json.array js) = nothing as_number array (λ ds. refl) (of_items js)
same_number (json.object ms) = nothing as_number object (λ ms. refl) (of_members ms no_members)

-- what is read of a part is read of what it stands for
of_part : {B : Type 0} (g : Data → Option B) (h : json.Json → Option B) → ((j : json.Json) → option_and_then g (of_json j) ≡ h j)
    → (o : Option json.Json) → option_and_then g (option_and_then of_json o) ≡ option_and_then h o
of_part g h same None = refl
of_part g h same (Some j) = same j

read_by : {A B : Type 0} (g : Data → Option B) (h : json.Json → Option B) → ((j : json.Json) → option_and_then g (of_json j) ≡ h j)
    → (v : TextValue A) (i : ℕ) → IsInRange v → option_and_then g (at i (data_of v)) ≡ option_and_then h (found.at i (value_view v))
read_by g h same v i is =
    ap (option_and_then g) (at_of i (value_view v) (data_of v) (the_value (of_json (value_view v)) is))
    ∙ of_part g h same (found.at i (value_view v))

-- what is read of the array as it was read is read of the array
module _ {A : Type 0} (v : TextValue A) (i : ℕ) (is : IsInRange v) where
  pub text_read : (o : Option Text) → o ≡ parts.text_at i (value_view v) → o ≡ text_at i (data_of v)
  text_read o h = h ∙ sym (read_by as_str found.as_str same_text v i is)

  pub nullable_read : (o : Option (Option Text)) → o ≡ parts.nullable_at i (value_view v) → o ≡ nullable_at i (data_of v)
  nullable_read o h = h ∙ sym (read_by as_nullable parts.as_nullable same_nullable v i is)

  pub asked_read : (o : Option PeriodFilter) → o ≡ parts.asked_at i (value_view v) → o ≡ asked_at i (data_of v)
  asked_read o h = h ∙ sym (read_by as_asked parts.as_asked same_asked v i is)

then_number : (o : Option json.Json)
    → (option_and_then (λ j. option_and_then number_of (found.as_number j)) o >>= λ n. as_u64 n >>= λ whole. limit_of whole)
    ≡ (option_and_then found.as_number o >>= λ text. number_of text >>= λ n. as_u64 n >>= λ whole. limit_of whole)
then_number None = refl
then_number (Some j) = by (found.as_number j)
  where
    by : (o : Option Text) → (option_and_then number_of o >>= λ n. as_u64 n >>= λ whole. limit_of whole)
        ≡ (o >>= λ text. number_of text >>= λ n. as_u64 n >>= λ whole. limit_of whole)
    by None = refl
    by (Some text) = refl

pub limit_read : {A : Type 0} (v : TextValue A) (i : ℕ) → IsInRange v → (o : Option Limit) → o ≡ parts.limit_at i (value_view v)
    → o ≡ limit_at i (data_of v)
limit_read v i is o h =
    h ∙ sym (ap (λ o. o >>= λ n. as_u64 n >>= λ whole. limit_of whole)
    (read_by as_number (λ j. option_and_then number_of (found.as_number j)) same_number v i is)
    ∙ then_number (found.at i (value_view v)))

part_stays : (o : Option json.Json) → ((m : json.Json) → o ≡ Some m → is_some (of_json m) ≡ true)
    → is_some (option_and_then of_json o) ≡ is_some o
part_stays None within = refl
part_stays (Some m) within = within m refl

pub end_read : {A : Type 0} (v : TextValue A) (i : ℕ) → IsInRange v → (o : Option ⊤) → o ≡ parts.ends_at i (value_view v)
    → o ≡ ends_at i (data_of v)
end_read v i is o h =
    h ∙ sym (ap (λ b. if b then None else Some tt)
    (ap is_some (at_of i (value_view v) (data_of v) (the_value (of_json (value_view v)) is))
    ∙ part_stays (found.at i (value_view v)) (λ m there. place_in i (value_view v) m is there)))

-- ---- parts that are objects

abbrev data_in : json.Json → Data
data_in j = unwrap_or (of_json j) null

made : {A : Type 0} (f : A → Data) (test : Data → Bool) (b : Bool) → ((x : A) → test (f x) ≡ b) → (o : Option A) (d : Data)
    → option_map f o ≡ Some d → test d ≡ b
made f test b each None d h = absurd (cc)
made f test b each (Some x) d h = ap (λ o. test (unwrap_or o d)) (sym h) ∙ each x

-- what stands for an object is one, and nothing else is
same_object : (j : json.Json) (d : Data) → of_json j ≡ Some d → is_some (as_object d) ≡ parts.is_object j
same_object json.null d h = ap (λ o. is_some (as_object (unwrap_or o d))) (sym h)
same_object (json.boolean b) d h = ap (λ o. is_some (as_object (unwrap_or o d))) (sym h)
same_object (json.number s) d h = made number (λ d. is_some (as_object d)) false (λ n. refl) (number_of s) d h
same_object (json.string s) d h = ap (λ o. is_some (as_object (unwrap_or o d))) (sym h)
same_object (json.array js) d h = made array (λ d. is_some (as_object d)) false (λ ds. refl) (of_items js) d h
same_object (json.object ms) d h = made object (λ d. is_some (as_object d)) true (λ ms. refl) (of_members ms no_members) d h

abbrev is_content : Data → Bool
is_content d = is_some (as_object d) || is_some (as_str d)

-- so of what may be a report
same_content : (j : json.Json) (d : Data) → of_json j ≡ Some d → is_content d ≡ is_report j
same_content json.null d h = ap (λ o. is_content (unwrap_or o d)) (sym h)
same_content (json.boolean b) d h = ap (λ o. is_content (unwrap_or o d)) (sym h)
same_content (json.number s) d h = made number is_content false (λ n. refl) (number_of s) d h
same_content (json.string s) d h = ap (λ o. is_content (unwrap_or o d)) (sym h)
same_content (json.array js) d h = made array is_content false (λ ds. refl) (of_items js) d h
same_content (json.object ms) d h = made object is_content true (λ ms. refl) (of_members ms no_members) d h

either : (b : Bool) (m : json.Json) → (if b then Some (data_in m) else None) ≡ option_map data_in (if b then Some m else None)
either true m = refl
either false m = refl

-- a part that passes a test is, where it was read, one that passes the test there
passing : (f : Data → Bool) (g : json.Json → Bool) → ((j : json.Json) (d : Data) → of_json j ≡ Some d → f d ≡ g j) → (o : Option json.Json)
    → ((m : json.Json) → o ≡ Some m → is_some (of_json m) ≡ true)
    → (option_and_then of_json o >>= λ part. if f part then Some part else None)
    ≡ option_map data_in (o >>= λ part. if g part then Some part else None)
passing f g same None within = refl
passing f g same (Some m) within =
    let is : of_json m ≡ Some (data_in m) = the_value (of_json m) (within m refl) in
    ap (λ o. o >>= λ part. if f part then Some part else None) is
    ∙ ap (λ b. if b then Some (data_in m) else None) (same m (data_in m) is)
    ∙ either (g m) m

passing_at : {A : Type 0} (f : Data → Bool) (g : json.Json → Bool) → ((j : json.Json) (d : Data) → of_json j ≡ Some d → f d ≡ g j)
    → (v : TextValue A) (i : ℕ) → IsInRange v → (at i (data_of v) >>= λ part. if f part then Some part else None)
    ≡ option_map data_in (found.at i (value_view v) >>= λ part. if g part then Some part else None)
passing_at f g same v i is =
    ap (λ o. o >>= λ part. if f part then Some part else None)
    (at_of i (value_view v) (data_of v) (the_value (of_json (value_view v)) is))
    ∙ passing f g same (found.at i (value_view v)) (λ m there. place_in i (value_view v) m is there)

-- what a part that was found stands for
stands_for : {A : Type 0} (o : Option (Bor (TextValue A))) → option_map (λ p. data_of p.now) o ≡ option_map data_in (option_map (λ p. value_view p.now) o)
stands_for None = refl
stands_for (Some p) = refl

module _ {A B : Type 0} (v : TextValue A) (i : ℕ) (is : IsInRange v) (o : Option (Bor (TextValue B))) where
  pub object_read : option_map (λ p. value_view p.now) o ≡ parts.object_at i (value_view v)
      → option_map (λ p. data_of p.now) o ≡ object_at i (data_of v)
  object_read h = stands_for o ∙ ap (option_map data_in) h
      ∙ sym (passing_at (λ d. is_some (as_object d)) parts.is_object same_object v i is)

  pub report_part_read : option_map (λ p. value_view p.now) o ≡ parts.report_part_at i (value_view v)
      → option_map (λ p. data_of p.now) o ≡ report_part_at i (data_of v)
  report_part_read h = stands_for o ∙ ap (option_map data_in) h ∙ sym (passing_at is_content is_report same_content v i is)
