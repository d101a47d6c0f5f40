-- Members whose names rise as they stand: each goes behind those before it.
use Rattle.std.proofs.Common.{◌≡◌, ◌∙◌, ap, sym, subst, refl, arith, T, ℕ, suc, ◌+◌, Bool, true, false, List, [], ◌∷◌, ◌++◌, length, get_or, Some, Less, Greater, is_lt, is_some}
use Rattle.std.specs.FinMap.Entries.{is_sorted, below_all}
use Rattle.std.specs.Bool.{OnTrue}
use Rattle.std.specs.List.{AllAdjacentBelow, IsAllAdjacentAnswer}
use Rattle.std.specs.Ordering.{match_ordering, ordering_reverse}
use Rattle.std.proofs.lemmas.Cmp.{nat_list_cmp_total}
use Rattle.std.proofs.lemmas.List.{append-nil, append_assoc}
use Rattle.json.specs.Value.{value_view, members_view}
use Rattle.serde_json.specs.Data.{Members, member, put}
use Rattle.serde_json.specs.Read.{of_members}
use Rattle.filing_model.specs.Common.Text.{Text, text_cmp}
use Rattle.filing_model.specs.Reading.JsonText.{pairs}
use Rattle.filing_model.proofs.Common.Tests.{both_hold, first_holds, second_holds, less_from_is_lt}
use Rattle.filing_model.proofs.Common.MapsOfLists.{below_from_less}
use Rattle.oim_report.specs.Borrowed.{are_in_range, data_of, members_at}
use Rattle.oim_report.proofs.OrderedMembers.{At, both, member_turn, name_cmp}

abbrev pub Rise : List At → Type 0
Rise ps = T (is_sorted text_cmp (pairs (members_at ps)))

-- ---- where each name is greater than the one before it

abbrev pub is_less : At → At → Bool
is_less p q = is_lt (name_cmp p.0 q.0)

holds : (b : Bool) → true ≡ b → T b
holds b h = subst T h tt

pub rise_by_pairs : (ps : List At) → AllAdjacentBelow (λ p q. true ≡ is_less p q) ps (length ps) → Rise ps
rise_by_pairs [] h = tt
rise_by_pairs (p ∷ []) h = tt
rise_by_pairs (p ∷ q ∷ rest) h =
    let after : (k : ℕ) → suc k + 1 ≡ suc (k + 1) = λ k. omega arith in
    let later = rise_by_pairs (q ∷ rest) (λ k d within.
    subst (λ j. true ≡ is_less (get_or (q ∷ rest) k d) (get_or (p ∷ q ∷ rest) j d)) (after k) (h (suc k) d (omega arith))) in
    let less : T (is_less p q) = holds _ (h 0 p (omega arith)) in
    both_hold _ _ (both_hold _ _ less (below_from_less p.0.now q.0.now (pairs (members_at rest)) (less_from_is_lt _ less) (first_holds _ _ later))) later

pub rise_where_told : (told : Bool) (ps : List At) → IsAllAdjacentAnswer (λ p q b. b ≡ is_less p q) ps told → OnTrue told (Rise ps)
rise_where_told true ps h = rise_by_pairs ps h
rise_where_told false ps h = tt

-- ---- each goes to the end

below_one : (k : Text) (qs : List At) (p : At) (rest : List At) → T (below_all text_cmp k (pairs (members_at (qs ++ p ∷ rest)))) → text_cmp k p.0.now ≡ Less
below_one k [] p rest h = less_from_is_lt _ (first_holds _ _ h)
below_one k (q ∷ qs) p rest h = below_one k qs p rest (second_holds _ _ h)

put_last : (front : List At) (p : At) (rest : List At) → Rise (front ++ p ∷ rest) → put p.0.now (data_of p.1) (members_at front) ≡ members_at (front ++ p ∷ [])
put_last [] p rest h = refl
put_last (q ∷ qs) p rest h =
    let less = below_one q.0.now qs p rest (first_holds _ _ h) in
    let greater : text_cmp p.0.now q.0.now ≡ Greater = nat_list_cmp_total.antisymm p.0.now q.0.now ∙ ap ordering_reverse less in
    ap (λ o. match_ordering o (member p.0.now (data_of p.1) (members_at (q ∷ qs))) (member q.0.now (data_of p.1) (members_at qs)) (member q.0.now (data_of q.1) (put p.0.now (data_of p.1) (members_at qs)))) greater
    ∙ ap (member q.0.now (data_of q.1)) (put_last qs p rest (second_holds _ _ h))

behind : (front ps : List At) → Rise (front ++ ps) → is_some (of_members (members_view ps) (members_at front)) ≡ true
    → of_members (members_view ps) (members_at front) ≡ Some (members_at (front ++ ps))
behind front [] h is = ap (λ qs. Some (members_at qs)) (sym (append-nil front))
behind front (p ∷ rest) h is =
    let moved : front ++ p ∷ rest ≡ (front ++ p ∷ []) ++ rest = sym (append_assoc front (p ∷ []) rest) in
    let turn = member_turn p.0.now (value_view p.1) (members_view rest) (members_at front) _ refl is in
    let next = sym turn.1 ∙ ap (of_members (members_view rest)) (put_last front p rest h) in
    next
    ∙ behind (front ++ p ∷ []) rest (subst Rise moved h) (ap is_some (sym next) ∙ is)
    ∙ ap (λ qs. Some (members_at qs)) (sym moved)

pub stay_in_order : (ps : List At) → Rise ps → is_some (of_members (members_view ps) Members.no_members) ≡ true
    → of_members (members_view ps) Members.no_members ≡ Some (members_at ps)
stay_in_order ps h is = behind [] ps h is

-- ---- and all are in range

pub all_in_range : (ps : List At) (found : Members) → is_some (of_members (members_view ps) found) ≡ true → are_in_range ps ≡ true
all_in_range [] found is = refl
all_in_range (p ∷ rest) found is =
    let turn = member_turn p.0.now (value_view p.1) (members_view rest) found _ refl is in
    both _ _ turn.0 (all_in_range rest _ (ap is_some turn.1 ∙ is))
