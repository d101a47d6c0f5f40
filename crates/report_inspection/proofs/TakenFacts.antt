-- Facts of a report that are taken one by one.
use Rattle.std.proofs.Common.{◌≡◌, ◌∙◌, ap, sym, subst, refl, ℕ, true, false, List, [], ◌∷◌, ◌++◌, length, Option, None, Some, is_some}
use Rattle.std.proofs.Common.{option_map, option_and_then, Err, unwrap_or, true≢false, Bor, Ordering, Less, Equal, Greater, suc}
use Rattle.std.proofs.lemmas.Grind.{flat_map-append}
use Rattle.std.proofs.lemmas.List.{append-nil, append_assoc}
use Rattle.std.proofs.lemmas.List.Elements.{filter_map-append}
use Rattle.std.specs.Prelude.{IfSome}
use Rattle.std.specs.BTreeMap.{insert_entry}
use Rattle.std.specs.List.{cons_option}
use Rattle.std.specs.Option.{option_flatten, option_to_list}
use Rattle.filing_model.specs.Common.Try.{Fails}
use Rattle.filing_model.specs.declared.faults.Trouble.{Trouble}
use Rattle.std.specs.Ordering.{match_ordering}
use Rattle.std.specs.declared.alloc.Global.{Global}
use Rattle.json.specs.declared.value.Value.{Value as TextValue}
use Rattle.json.specs.Find as found
use Rattle.json.specs.Json as json
use Rattle.json.specs.Value.{value_view}
use Rattle.serde_json.specs.Data.{Data, Members, no_members, null, boolean, number, string, array, object}
use Rattle.serde_json.specs.Find.{as_object, get}
use Rattle.serde_json.specs.Read.{of_json, of_members}
use Rattle.filing_model.specs.Common.Text.{Text}
use Rattle.filing_model.specs.Oim.Facts.{Names}
use Rattle.filing_model.specs.Reading.JsonText.{pairs}
use Rattle.oim_report.specs.Borrowed.{are_in_range, data_of, is_in_range, members_at, read_object}
use Rattle.oim_report.proofs.InRange.{get_of, part_in, the_value}
use Rattle.oim_report.proofs.OrderedMembers.{name_cmp, range_turn}
use Rattle.report_inspection.specs.EachFault.{fact_faults, fact_judged, facts_read, value_in, member_fact, member_faults}
use Rattle.report_inspection.specs.Found.{PlaceRef, Takes, TakesEach, places_behind}
use Rattle.report_inspection.specs.Inspections.{AddsFaults}
use Rattle.oim_report.specs.Parts.{facts_view}
use Rattle.report_inspection.specs.declared.facts.Found.{Found}
use Rattle.report_inspection.proofs.ToldFaults.{no_more, then_more}

-- ---- one behind another

one_or_none : {X : Type 0} (o : Option X) → cons_option o [] ≡ option_to_list o
one_or_none None = refl
one_or_none (Some x) = refl

read_more : (names : Option Names) (done : List (Text × Data)) (m : Text × Data)
    → facts_read names (done ++ m ∷ []) ≡ facts_read names done ++ option_to_list (member_fact names m)
read_more names done m =
    filter_map-append (member_fact names) done (m ∷ []) ∙ ap (λ es. facts_read names done ++ es) (one_or_none (member_fact names m))

faults_more : (names : Option Names) (done : List (Text × Data)) (m : Text × Data)
    → fact_faults names (done ++ m ∷ []) ≡ fact_faults names done ++ member_faults names m
faults_more names done m =
    flat_map-append (member_faults names) done (m ∷ []) ∙ ap (λ fs. fact_faults names done ++ fs) (append-nil (member_faults names m))

-- a refused fact is not taken
pub no_fact : (names : Option Names) (id : Text) (d : Data) (fault : Option Trouble) (t : Trouble) → Fails fault (fact_judged names d) → fault ≡ Some t
    → member_fact names (id, d) ≡ None
no_fact names id d fault t fails is =
    let ends : fact_judged names d ≡ Err t = subst (λ f. Fails f (fact_judged names d)) is fails in
    ap (λ r. option_map (λ fact. (id, fact)) (option_flatten (value_in r))) ends

pub takes_refused : (names : Option Names) (m : Text × Data) (a b : Found) → member_fact names m ≡ None
    → AddsFaults (member_faults names m) a.faults.items b.faults.items → b.facts ≡ a.facts → Takes names m a b
takes_refused names m a b none faults same = record {
  facts = (λ i. facts_view (same i).items) ∙ sym (append-nil (facts_view a.facts.items)) ∙ ap (λ o. facts_view a.facts.items ++ option_to_list o) (sym none);
  faults = faults;
}

pub takes_none : (names : Option Names) (found : Found) → TakesEach names [] found found
takes_none names found = record { facts = sym (append-nil (facts_view found.facts.items)); faults = no_more found.faults.items }

pub takes_one_more : (names : Option Names) (done : List (Text × Data)) (m : Text × Data) (a b c : Found) → TakesEach names done a b
    → Takes names m b c → TakesEach names (done ++ m ∷ []) a c
takes_one_more names done m a b c h k = record {
  facts =
      k.facts
      ∙ ap (λ es. es ++ option_to_list (member_fact names m)) h.facts
      ∙ append_assoc (facts_view a.facts.items) (facts_read names done) (option_to_list (member_fact names m))
      ∙ ap (λ es. facts_view a.facts.items ++ es) (sym (read_more names done m));
  faults =
      subst (λ fs. AddsFaults fs a.faults.items c.faults.items) (sym (faults_more names done m))
      (then_more _ _ a.faults.items b.faults.items c.faults.items h.faults k.faults);
}

-- ---- a loop over members

-- how many there are
pub count_behind : (ps : List PlaceRef) → length (pairs (members_at (places_behind ps))) ≡ length ps
count_behind [] = refl
count_behind (p ∷ ps) = ap (λ n. suc n) (count_behind ps)

-- what was taken, and what is left to take, are all
pub record Taking (names : Option Names) (all left : List PlaceRef) (before now : Found) : Type 0 where
  pub done : List (Text × Data)
  pub parts : pairs (members_at (places_behind all)) ≡ done ++ pairs (members_at (places_behind left))
  pub takes : TakesEach names done before now
  pub range : are_in_range (places_behind left) ≡ true

pub taking_begins : (names : Option Names) (all : List PlaceRef) (found : Found) → are_in_range (places_behind all) ≡ true → Taking names all all found found
taking_begins names all found range = record { done = []; parts = refl; takes = takes_none names found; range = range }

pub taking_steps : (names : Option Names) (all left rest : List PlaceRef) (k : Bor Text) (v : Bor (TextValue Global)) (before now later : Found)
    → Taking names all left before now → left ≡ (k, v) ∷ rest → Takes names (k.now, data_of v.now) now later → Taking names all rest before later
taking_steps names all left rest k v before now later h left_is one = record {
  done = h.done ++ (k.now, data_of v.now) ∷ [];
  parts =
      h.parts
      ∙ ap (λ ps. h.done ++ pairs (members_at (places_behind ps))) left_is
      ∙ sym (append_assoc h.done ((k.now, data_of v.now) ∷ []) (pairs (members_at (places_behind rest))));
  takes = takes_one_more names h.done (k.now, data_of v.now) before now later h.takes one;
  range = (range_turn (places_behind left) (places_behind rest) k v.now (ap places_behind left_is) h.range).1;
}

pub as_many : (o : Option Members) (all : List PlaceRef) (n : ℕ) → o ≡ Some (members_at (places_behind all)) → n ≡ length all
    → n ≡ length (pairs (unwrap_or o no_members))
as_many o all n is n_is = n_is ∙ sym (count_behind all) ∙ ap (λ o. length (pairs (unwrap_or o no_members))) (sym is)

pub taking_ends : (names : Option Names) (all left : List PlaceRef) (before now : Found) → Taking names all left before now → left ≡ []
    → TakesEach names (pairs (members_at (places_behind all))) before now
taking_ends names all left before now h none =
    subst (λ ms. TakesEach names ms before now)
    (sym (h.parts ∙ ap (λ ps. h.done ++ pairs (members_at (places_behind ps))) none ∙ append-nil h.done)) h.takes

-- ---- members put into their places

pub put_behind : (ps : List PlaceRef) (k : Bor Text) (v : Bor (TextValue Global))
    → places_behind (insert_entry name_cmp ps k v) ≡ insert_entry name_cmp (places_behind ps) k v.now
put_behind [] k v = refl
put_behind (p ∷ ps) k v =
    by_order (name_cmp k p.0)
    ∙ ap (λ qs. match_ordering (name_cmp k p.0) ((k, v.now) ∷ places_behind (p ∷ ps)) ((p.0, v.now) ∷ places_behind ps) ((p.0, p.1.now) ∷ qs))
    (put_behind ps k v)
  where
    by_order : (o : Ordering)
        → places_behind (match_ordering o ((k, v) ∷ p ∷ ps) ((p.0, v) ∷ ps) (p ∷ insert_entry name_cmp ps k v))
        ≡ match_ordering o ((k, v.now) ∷ places_behind (p ∷ ps)) ((p.0, v.now) ∷ places_behind ps)
        ((p.0, p.1.now) ∷ places_behind (insert_entry name_cmp ps k v))
    by_order Less = refl
    by_order Equal = refl
    by_order Greater = refl

-- ---- objects by what was read

kept : {A B : Type 0} (f : A → B) (o : Option A) → is_some (option_map f o) ≡ is_some o
kept f None = refl
kept f (Some x) = refl

object_of : (o : Option Members) → is_some o ≡ true → as_object (unwrap_or (option_map object o) null) ≡ o
object_of None some = absurd (true≢false (sym some))
object_of (Some ms) some = refl

-- the members of an object in range
pub is_object : (m : json.Json) (ms : json.Members) → Some ms ≡ read_object m → is_some (of_json m) ≡ true
    → as_object (unwrap_or (of_json m) null) ≡ of_members ms no_members
is_object (json.object ns) ms is some =
    let same : ns ≡ ms = ap (λ o. unwrap_or o ns) (sym is) in
    object_of (of_members ns no_members) (sym (kept object (of_members ns no_members)) ∙ some) ∙ ap (λ ns. of_members ns no_members) same
is_object json.null ms is some = absurd (cc)
is_object (json.boolean b) ms is some = absurd (cc)
is_object (json.number s) ms is some = absurd (cc)
is_object (json.string s) ms is some = absurd (cc)
is_object (json.array js) ms is some = absurd (cc)

-- ---- what stands at a name

pub part_data : (name : Text) (value : TextValue Global) (o : Option (Bor (TextValue Global))) → is_in_range value ≡ true
    → option_map (λ v. value_view v.now) o ≡ found.get name (value_view value) → option_map (λ v. data_of v.now) o ≡ get name (data_of value)
part_data name value None some is =
    sym (get_of name (value_view value) (data_of value) (the_value (of_json (value_view value)) some) ∙ ap (option_and_then of_json) (sym is))
part_data name value (Some v) some is =
    sym (get_of name (value_view value) (data_of value) (the_value (of_json (value_view value)) some)
    ∙ ap (option_and_then of_json) (sym is)
    ∙ the_value (of_json (value_view v.now)) (part_in name (value_view value) (value_view v.now) some (sym is)))

pub part_range : (name : Text) (value : TextValue Global) (o : Option (Bor (TextValue Global))) → is_in_range value ≡ true
    → option_map (λ v. value_view v.now) o ≡ found.get name (value_view value) → IfSome o (λ v. is_in_range v.now ≡ true)
part_range name value None some is = tt
part_range name value (Some v) some is = part_in name (value_view value) (value_view v.now) some (sym is)
