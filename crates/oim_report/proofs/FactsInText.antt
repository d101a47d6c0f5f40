-- The facts of a report whose texts are those that were read.
use Rattle.std.proofs.Common.{◌≡◌, ◌∙◌, ap, sym, refl, true, List, Option, None, Some, is_some, unwrap_or, option_map, true≢false, subst, Result, Ok, Err}
use Rattle.json.specs.Json as json
use Rattle.serde_json.specs.Data.{Members, no_members, object, array, number}
use Rattle.serde_json.specs.Read.{of_json, of_items, of_members, number_of}
use Rattle.filing_model.specs.Oim.Facts.{Fact, Names}
use Rattle.filing_model.specs.Reading.JsonText.{pairs}
use Rattle.filing_model.specs.Reading.ReadReport.{ReportFault, WrongShape, entry_of, facts_of}
use Rattle.filing_model.specs.Common.Text.{Text}
use Rattle.filing_model.specs.Common.TextMap.{from_entries}
use Rattle.filing_model.specs.Common.Try.{◌>>=◌, Fails, Gives, each}
use Rattle.oim_report.specs.Borrowed.{read_object}

gives_mapped : {X E : Type 0} (fault : E → Option ReportFault) (seen : X → List (Text × Fact)) (result : Result X E) (reading : Result (List (Text × Fact)) ReportFault)
    → Gives fault seen result reading → Gives fault (λ v. from_entries (seen v)) result (reading >>= λ entries. Ok (from_entries entries))
gives_mapped fault seen (Ok x) reading h = ap (λ r. r >>= λ entries. Ok (from_entries entries)) h
gives_mapped fault seen (Err e) reading h = failed (fault e) reading h
  where
    failed : (f : Option ReportFault) (reading : Result (List (Text × Fact)) ReportFault) → Fails f reading → Fails f (reading >>= λ entries. Ok (from_entries entries))
    failed None reading h = tt
    failed (Some f) reading h = ap (λ r. r >>= λ entries. Ok (from_entries entries)) h

of_object : (names : Names) (o : Option Members) → is_some o ≡ true
    → facts_of names (option_map object o) ≡ (each (entry_of names) (pairs (unwrap_or o no_members)) >>= λ entries. Ok (from_entries entries))
of_object names None h = absurd (true≢false (sym h))
of_object names (Some ms) h = refl

-- of an object in range, its members are read in their order
pub facts_of_object : {X E : Type 0} (names : Names) (fault : E → Option ReportFault) (seen : X → List (Text × Fact)) (result : Result X E)
    (m : json.Json) (ms : json.Members) → read_object m ≡ Some ms → is_some (of_members ms no_members) ≡ true
    → Gives fault seen result (each (entry_of names) (pairs (unwrap_or (of_members ms no_members) no_members)))
    → Gives fault (λ v. from_entries (seen v)) result (facts_of names (of_json m))
facts_of_object names fault seen result json.null ms is some h = absurd (cc)
facts_of_object names fault seen result (json.boolean b) ms is some h = absurd (cc)
facts_of_object names fault seen result (json.number s) ms is some h = absurd (cc)
facts_of_object names fault seen result (json.string s) ms is some h = absurd (cc)
facts_of_object names fault seen result (json.array js) ms is some h = absurd (cc)
facts_of_object names fault seen result (json.object ns) ms is some h =
    let same : ns ≡ ms = ap (λ o. unwrap_or o ns) is in
    subst (λ r. Gives fault (λ v. from_entries (seen v)) result r)
    (sym (ap (λ ns. facts_of names (option_map object (of_members ns no_members))) same ∙ of_object names (of_members ms no_members) some))
    (gives_mapped fault seen result _ h)

is_in : (m : json.Json) (ms : json.Members) → read_object m ≡ Some ms → is_some (of_json m) ≡ true → is_some (of_members ms no_members) ≡ true
is_in json.null ms is some = absurd (cc)
is_in (json.boolean b) ms is some = absurd (cc)
is_in (json.number s) ms is some = absurd (cc)
is_in (json.string s) ms is some = absurd (cc)
is_in (json.array js) ms is some = absurd (cc)
is_in (json.object ns) ms is some =
    let same : ns ≡ ms = ap (λ o. unwrap_or o ns) is in
    ap (λ ns. is_some (of_members ns no_members)) (sym same) ∙ sym (kept (of_members ns no_members)) ∙ some
  where
    kept : (o : Option Members) → is_some (option_map object o) ≡ is_some o
    kept None = refl
    kept (Some ms) = refl

-- the members of an object in range are in range
pub members_are_in : (m : json.Json) (ms : json.Members) → Some ms ≡ read_object m → is_some (of_json m) ≡ true → is_some (of_members ms no_members) ≡ true
members_are_in m ms is some = is_in m ms (sym is) some

array_shape : (names : Names) (o : Option _) → is_some (option_map array o) ≡ true → facts_of names (option_map array o) ≡ Err WrongShape
array_shape names None h = absurd (true≢false (sym h))
array_shape names (Some ds) h = refl

number_shape : (names : Names) (o : Option _) → is_some (option_map number o) ≡ true → facts_of names (option_map number o) ≡ Err WrongShape
number_shape names None h = absurd (true≢false (sym h))
number_shape names (Some n) h = refl

-- what is no object has the wrong shape
pub wrong_shape : (names : Names) (m : json.Json) → None ≡ read_object m → is_some (of_json m) ≡ true → facts_of names (of_json m) ≡ Err WrongShape
wrong_shape names json.null is some = refl
wrong_shape names (json.boolean b) is some = refl
wrong_shape names (json.number s) is some = number_shape names (number_of s) some
wrong_shape names (json.string s) is some = refl
wrong_shape names (json.array js) is some = array_shape names (of_items js) some
wrong_shape names (json.object ms) is some = absurd (cc)
