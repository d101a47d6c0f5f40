-- Members in byte order of their names, where they were read, and a loop over them that reads them one by one.
use Rattle.std.proofs.Common.{◌≡◌, ◌∙◌, ap, sym, subst, refl, T, Bool, true, false, ◌&&◌, List, [], ◌∷◌, ◌++◌, length, map, Option, None, Some, Result, Ok}
use Rattle.std.proofs.Common.{Bor, Ordering, Less, Equal, Greater, nat_cmp, is_lt, is_some, option_and_then, unwrap_or, true≢false, arith}
use Rattle.std.proofs.lemmas.List.{append-nil, map-append}
use Rattle.std.specs.BTreeMap.{insert_entry}
use Rattle.std.specs.Cmp.Lexicographic.{slice_cmp}
use Rattle.std.specs.FinMap.Entries.{is_sorted, below_all}
use Rattle.std.specs.List.{AllByRecursion}
use Rattle.std.specs.List.Sorted.{IsStrictlySortedBy}
use Rattle.std.specs.Map.{keys_of}
use Rattle.std.specs.Ordering.{match_ordering}
use Rattle.std.specs.declared.alloc.Global.{Global}
use Rattle.json.specs.Json as json
use Rattle.json.specs.declared.value.Value.{Value as TextValue}
use Rattle.serde_json.specs.Data.{Data, null, Members, put}
use Rattle.serde_json.specs.Read.{of_json, of_members}
use Rattle.filing_model.specs.Common.Text.{Text, text_cmp}
use Rattle.filing_model.specs.Reading.JsonText.{pairs}
use Rattle.filing_model.specs.Common.Try.{each, with_front}
use Rattle.filing_model.proofs.Common.Tests.{both_hold}
use Rattle.filing_model.proofs.Reading.Tries.{each_more}
use Rattle.oim_report.specs.Borrowed.{Place, are_in_range, data_of, is_in_range, members_at}

abbrev pub At : Type 0
At = Place Global

abbrev pub name_cmp : Bor Text → Bor Text → Ordering
name_cmp x y = slice_cmp nat_cmp x.now y.now

-- ---- one more member

members_at-match : (o : Ordering) (a b c : List At) → members_at (match_ordering o a b c) ≡ match_ordering o (members_at a) (members_at b) (members_at c)
members_at-match Less a b c = refl
members_at-match Equal a b c = refl
members_at-match Greater a b c = refl

pub members_at-insert : (ps : List At) (k : Bor Text) (v : TextValue Global)
    → members_at (insert_entry name_cmp ps k v) ≡ put k.now (data_of v) (members_at ps)
members_at-insert [] k v = refl
members_at-insert (p ∷ ps) k v = members_at-match (name_cmp k p.0) _ _ _ ∙ rw (members_at-insert ps k v)

pub both : (a b : Bool) → a ≡ true → b ≡ true → (a && b) ≡ true
both true b refl_a h = h
both false b h other = h

fst : (a b : Bool) → (a && b) ≡ true → a ≡ true
fst true b h = refl
fst false b h = h

snd : (a b : Bool) → (a && b) ≡ true → b ≡ true
snd true b h = h
snd false b h = absurd (true≢false (sym h))

in_range-match : (o : Ordering) (a b c : List At) → are_in_range a ≡ true → are_in_range b ≡ true → are_in_range c ≡ true
    → are_in_range (match_ordering o a b c) ≡ true
in_range-match Less a b c p q r = p
in_range-match Equal a b c p q r = q
in_range-match Greater a b c p q r = r

pub in_range-insert : (ps : List At) (k : Bor Text) (v : TextValue Global) → is_in_range v ≡ true → are_in_range ps ≡ true
    → are_in_range (insert_entry name_cmp ps k v) ≡ true
in_range-insert [] k v is h = both _ _ is refl
in_range-insert (p ∷ ps) k v is h =
    in_range-match (name_cmp k p.0) _ _ _ (both _ _ is h) (both _ _ is (snd _ _ h))
    (both _ _ (fst _ _ h) (in_range-insert ps k v is (snd _ _ h)))

turn_at : (o : Option Data) (k : Text) (ms : json.Members) (f : Members) (whole : Option Members)
    → option_and_then (λ d. of_members ms (put k d f)) o ≡ whole → is_some whole ≡ true
    → (is_some o ≡ true) × (of_members ms (put k (unwrap_or o null) f) ≡ whole)
turn_at None k ms f whole h is = absurd (true≢false (sym (ap is_some h ∙ is)))
turn_at (Some d) k ms f whole h is = (refl, h)

-- where all members are in range, the next one is, and goes to its place
pub member_turn : (k : Text) (j : json.Json) (ms : json.Members) (f : Members) (whole : Option Members)
    → of_members (json.member k j ms) f ≡ whole → is_some whole ≡ true
    → (is_some (of_json j) ≡ true) × (of_members ms (put k (unwrap_or (of_json j) null) f) ≡ whole)
member_turn k j ms f whole h is = turn_at (of_json j) k ms f whole h is

-- ---- their names rise

below_places : (k : Bor Text) (ps : List At) → AllByRecursion (λ y. name_cmp k y ≡ Less) (keys_of ps)
    → T (below_all text_cmp k.now (pairs (members_at ps)))
below_places k [] h = tt
below_places k (p ∷ ps) (less, rest) = both_hold _ _ (subst (λ o. T (is_lt o)) (sym less) tt) (below_places k ps rest)

pub sorted_places : (ps : List At) → IsStrictlySortedBy name_cmp (keys_of ps) → T (is_sorted text_cmp (pairs (members_at ps)))
unfolding IsStrictlySortedBy
sorted_places [] h = tt
sorted_places (p ∷ ps) (below, rest) = both_hold _ _ (below_places p.0 ps below) (sorted_places ps rest)

-- ---- a loop over them

-- what was read, as it is seen, in front of what f reads of the rest
abbrev pub read_places : {P X E : Type 0} → (P → X) → (Text × Data → Result X E) → List P → List At → Result (List X) E
read_places seen f before left = with_front (map seen before) (each f (pairs (members_at left)))

pub place_turn : {P X E : Type 0} (seen : P → X) (f : Text × Data → Result X E) (left rest : List At)
    (k : Bor Text) (v : TextValue Global) (before later : List P) (p : P) (goal : Result (List X) E)
    → left ≡ (k, v) ∷ rest → later ≡ before ++ p ∷ [] → f (k.now, data_of v) ≡ Ok (seen p)
    → read_places seen f before left ≡ goal → read_places seen f later rest ≡ goal
place_turn seen f left rest k v before later p goal left_is later_is read h =
    ap (λ ps. with_front ps (each f (pairs (members_at rest)))) (ap (λ ps. map seen ps) later_is ∙ map-append seen before (p ∷ []))
    ∙ each_more f (map seen before) (k.now, data_of v) (seen p) (pairs (members_at rest)) read
    ∙ ap (λ ps. read_places seen f before ps) (sym left_is)
    ∙ h

pub no_places : (ps : List At) → 0 ≡ length ps → ps ≡ []
no_places [] h = refl
no_places (p ∷ ps) h = absurd (omega arith)

pub places_read : {P X E : Type 0} (seen : P → X) (f : Text × Data → Result X E) (left : List At) (before : List P) (goal : Result (List X) E)
    → left ≡ [] → read_places seen f before left ≡ goal → goal ≡ Ok (map seen before)
places_read seen f left before goal left_is h =
    sym h ∙ ap (λ ps. read_places seen f before ps) left_is ∙ ap (λ xs. Ok xs) (append-nil (map seen before))

-- the next one is in range, and so are those after it
pub range_turn : (left rest : List At) (k : Bor Text) (v : TextValue Global) → left ≡ (k, v) ∷ rest → are_in_range left ≡ true
    → (is_in_range v ≡ true) × (are_in_range rest ≡ true)
range_turn left rest k v left_is h =
    let all : (is_in_range v && are_in_range rest) ≡ true = ap are_in_range (sym left_is) ∙ h in
    (fst _ _ all, snd _ _ all)
