-- Names that were sorted to see whether one stands twice.
use Rattle.std.proofs.Common.{◌≡◌, ◌∙◌, ap, sym, subst, refl, Bool, true, false, ◌||◌, ◌&&◌, true≢false, is_lt, IsPermutation, Bor}
use Rattle.std.proofs.Common.{List, [], ◌∷◌, map, length, take, drop, get_or, ◌-◌, ◌≤◌}
use Rattle.std.proofs.lemmas.Bool.{or_parts}
use Rattle.std.specs.List.{list_any}
use Rattle.std.specs.List.Sorted.{IsSortedBy}
use Rattle.std.specs.Cmp.{IsStrictWeakOrder}
use Rattle.std.proofs.lemmas.List.Sorted.{IsPermutation-map, ranks_by}
use Rattle.std.specs.Cmp.Lexicographic.{nat_list_cmp_total}
use Rattle.filing_model.specs.Common.Text.{Text, text_cmp, text_eq, has_repeats}
use Rattle.filing_model.proofs.Common.Texts.{has_repeats-IsPermutation, text_same}
use Rattle.oim_fact.specs.Texts.{NoneFalls, has_equal_neighbours, names_in}
use Rattle.oim_fact.proofs.SortedTexts.{NoneFalls-sorted, repeated_are_neighbours}
use Rattle.std.specs.BTreeSet.{Updates}
use Rattle.std.specs.declared.alloc.Global.{Global}
use Rattle.json.specs.declared.value.Value.{Value as TextValue}
use Rattle.json.specs.Strict.{keys}
use Rattle.json.specs.Value.{members_view}
use Rattle.filing_model.proofs.Oim.ByPairs.{first_and_rest}
use Rattle.report_inspection.specs.MemberNames.{NameSet, has_name, is_among, is_repeated}
use Rattle.report_inspection.proofs.AddedNames.{name_cmp, one_added}

-- ---- where no name stands twice, none is repeated

not_here : (name n : Text) (ns : List Text) (b : Bool) → text_eq name n ≡ b → list_any (text_eq n) ns ≡ false → (b && is_among ns name) ≡ false
not_here name n ns true same none = ap (λ t. list_any (text_eq t) ns) (text_same name n same) ∙ none
not_here name n ns false other none = refl

pub not_repeated : (ns : List Text) → has_repeats ns ≡ false → (name : Text) → is_repeated ns name ≡ false
not_repeated [] none name = refl
not_repeated (n ∷ ns) none name =
    let parts = or_parts (list_any (text_eq n) ns) (has_repeats ns) none in
    ap (λ b. b || is_repeated ns name) (not_here name n ns (text_eq name n) refl parts.0)
    ∙ not_repeated ns parts.1 name

-- ---- sorted names

abbrev pub is_before : Bor Text → Bor Text → Bool
is_before x y = is_lt (text_cmp x.now y.now)

pub is_before-ranks : IsStrictWeakOrder is_before
is_before-ranks = ranks_by nat_list_cmp_total (λ n. n.now)

abbrev texts : List (Bor Text) → List Text
texts ns = map (λ n. n.now) ns

-- with nothing beside them
abbrev alone : List (Bor Text) → List (Text × Bool)
alone [] = []
alone (n ∷ ns) = (n.now, true) ∷ alone ns

same_names : (ns : List (Bor Text)) → names_in (alone ns) ≡ texts ns
same_names [] = refl
same_names (n ∷ ns) = ap (λ ts. n.now ∷ ts) (same_names ns)

none_falls : (ns : List (Bor Text)) → IsSortedBy is_before ns → NoneFalls (texts ns)
none_falls ns h = NoneFalls-sorted (λ n. n.now) is_before (λ x y later. later) ns h

neighbours_repeat : (ns : List (Bor Text)) → NoneFalls (texts ns) → has_repeats (texts ns) ≡ has_equal_neighbours (texts ns)
neighbours_repeat ns h =
    subst (λ ts. has_repeats ts ≡ has_equal_neighbours ts) (same_names ns) (repeated_are_neighbours (alone ns) (subst NoneFalls (sym (same_names ns)) h))

-- neighbours among sorted names tell whether one of the names stood twice
pub repeats_by_neighbours : (ns sorted : List (Bor Text)) → IsPermutation ns sorted → IsSortedBy is_before sorted
    → has_equal_neighbours (texts sorted) ≡ has_repeats (texts ns)
repeats_by_neighbours ns sorted p h =
    sym (neighbours_repeat sorted (none_falls sorted h)) ∙ sym (has_repeats-IsPermutation _ _ (IsPermutation-map (λ n. n.now) ns sorted p))

-- ---- members as they are held

abbrev pub Member : Type 0
Member = Bor Text × TextValue Global

pub keys_are : (xs : List Member) → keys (members_view xs) ≡ map (λ m. m.0.now) xs
keys_are [] = refl
keys_are (x ∷ xs) = ap (λ ts. x.0.now ∷ ts) (keys_are xs)

-- ---- each is compared with those behind it

abbrev pub behind : List Member → List Member
behind xs = take (length xs - 1) (drop 1 xs)

-- a name that stands behind again
again_turn : (r e h d : Bool) → (e ≡ true → h ≡ true) → ((r || e) || d) ≡ (r || ((e && h) || d))
again_turn true e h d is = refl
again_turn false false h d is = refl
again_turn false true true d is = refl
again_turn false true false d is = absurd (true≢false (sym (is refl)))

-- one that does not
once_turn : (r e h d : Bool) → (e ≡ true → h ≡ false) → (r || d) ≡ (r || ((e && h) || d))
once_turn true e h d is = refl
once_turn false false h d is = refl
once_turn false true false d is = refl
once_turn false true true d is = absurd (true≢false (is refl))

among_as : (ns : List Text) (n : Text) (b : Bool) → is_among ns n ≡ b → (name : Text) → text_eq name n ≡ true → is_among ns name ≡ b
among_as ns n b is name same = ap (is_among ns) (text_same name n same) ∙ is

first_behind : (xs : List Member) (x : Member) (name : Text) → 1 ≤ length xs → x ≡ get_or xs 0 x
    → is_repeated (keys (members_view xs)) name
    ≡ ((text_eq name x.0.now && is_among (keys (members_view (behind xs))) name) || is_repeated (keys (members_view (behind xs))) name)
first_behind xs x name some is = ap (λ ys. is_repeated (keys (members_view ys)) name) (first_and_rest xs x some is)

pub again_added : (xs : List Member) (x : Member) (before after : NameSet) (all : Text → Bool) → 1 ≤ length xs → x ≡ get_or xs 0 x
    → is_among (keys (members_view (behind xs))) x.0.now ≡ true → Updates name_cmp before after x.0 true
    → ((name : Text) → (has_name before name || is_repeated (keys (members_view xs)) name) ≡ all name)
    → (name : Text) → (has_name after name || is_repeated (keys (members_view (behind xs))) name) ≡ all name
again_added xs x before after all some is again u h name =
    let rest = keys (members_view (behind xs)) in
    ap (λ b. b || is_repeated rest name) (one_added x.0 before after u name)
    ∙ again_turn (has_name before name) (text_eq name x.0.now) (is_among rest name) (is_repeated rest name) (among_as rest x.0.now true again name)
    ∙ ap (λ b. has_name before name || b) (sym (first_behind xs x name some is))
    ∙ h name

pub once_passed : (xs : List Member) (x : Member) (before : NameSet) (all : Text → Bool) → 1 ≤ length xs → x ≡ get_or xs 0 x
    → is_among (keys (members_view (behind xs))) x.0.now ≡ false
    → ((name : Text) → (has_name before name || is_repeated (keys (members_view xs)) name) ≡ all name)
    → (name : Text) → (has_name before name || is_repeated (keys (members_view (behind xs))) name) ≡ all name
once_passed xs x before all some is once h name =
    let rest = keys (members_view (behind xs)) in
    once_turn (has_name before name) (text_eq name x.0.now) (is_among rest name) (is_repeated rest name) (among_as rest x.0.now false once name)
    ∙ ap (λ b. has_name before name || b) (sym (first_behind xs x name some is))
    ∙ h name
