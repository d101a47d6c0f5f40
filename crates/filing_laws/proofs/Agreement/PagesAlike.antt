-- Where two rising lists agree up to the first identifier that a limit cuts from one, it leaves the same front of both and cuts the same identifier.
use Rattle.std.proofs.Common.{◌≡◌, ◌∙◌, ap, sym, refl, subst, ℕ, zero, suc, Bool, true, false, cond, not, ◌&&◌, T}
use Rattle.std.proofs.Common.{List, [], ◌∷◌, map, filter, take, Option, Some, None, Ordering, Less}
use Rattle.std.proofs.Common.{is_lt, true≢false}
use Rattle.std.specs.Option.{option_map_or}
use Rattle.std.specs.Cmp.Lexicographic.{nat_list_cmp_total}
use Rattle.std.specs.Cmp.{tied_itself}
use Rattle.std.specs.Ordering.{ordering_reverse}
use Rattle.std.specs.FinMap.Entries.{is_sorted, below_all}
use Rattle.filing_model.specs.Common.Text.{Text, text_cmp}
use Rattle.filing_model.specs.Common.TextMap.{TextMap}
use Rattle.filing_model.specs.Oim.Facts.{Fact}
use Rattle.filing_model.specs.Sessions.Calls.{PageQuery}
use Rattle.filing_model.specs.Sessions.Queries.{answers_query, query_ids, is_after, ids_after, ids_for, first_cut}
use Rattle.filing_model.specs.Histories.Touches.{is_within}
use Rattle.filing_model.proofs.Common.Tests.{both_hold, first_holds, second_holds, less_from_is_lt}
use Rattle.filing_laws.proofs.Lists.FilteredFacts.{sorted-filter}

-- ---- rising identifiers

-- each later identifier is greater
abbrev pub below_each : Text → List Text → Bool
below_each x [] = true
below_each x (y ∷ ys) = is_lt (text_cmp x y) && below_each x ys

abbrev pub rises : List Text → Bool
rises [] = true
rises (x ∷ xs) = below_each x xs && rises xs

is_less : (o : Ordering) → o ≡ Less → T (is_lt o)
is_less o h = subst (λ o. T (is_lt o)) (sym h) tt

less_then : (x y z : Text) → T (is_lt (text_cmp x y)) → T (is_lt (text_cmp y z)) → T (is_lt (text_cmp x z))
less_then x y z a b = is_less (text_cmp x z) (nat_list_cmp_total.trans x y z (less_from_is_lt (text_cmp x y) a) (less_from_is_lt (text_cmp y z) b))

-- what is less than the first is less than all
pub below_from_less : (x y : Text) (ys : List Text) → T (is_lt (text_cmp x y)) → T (below_each y ys) → T (below_each x ys)
below_from_less x y [] less below = tt
below_from_less x y (z ∷ ys) less below =
    both_hold _ _ (less_then x y z less (first_holds (is_lt (text_cmp y z)) (below_each y ys) below))
    (below_from_less x y ys less (second_holds (is_lt (text_cmp y z)) (below_each y ys) below))

-- ---- what stands up to an end

-- not greater than the end, where there is one
abbrev pub is_upto : Option Text → Text → Bool
is_upto upto id = option_map_or (λ last. not (is_lt (text_cmp last id))) upto true

abbrev pub ids_upto : Option Text → List Text → List Text
ids_upto upto ids = filter (is_upto upto) ids

all_without_end : (xs : List Text) → ids_upto None xs ≡ xs
all_without_end [] = refl
all_without_end (x ∷ xs) = ap (λ ys. x ∷ ys) (all_without_end xs)

true_is : (b : Bool) → T b → b ≡ true
true_is true h = refl
true_is false h = absurd h

-- nothing greater stands up to an end
none_behind : (last : Text) (ys : List Text) → T (below_each last ys) → ids_upto (Some last) ys ≡ []
none_behind last [] below = refl
none_behind last (y ∷ ys) below =
    ap (λ b. cond (not b) (y ∷ ids_upto (Some last) ys) (ids_upto (Some last) ys))
    (true_is (is_lt (text_cmp last y)) (first_holds (is_lt (text_cmp last y)) (below_each last ys) below))
    ∙ none_behind last ys (second_holds (is_lt (text_cmp last y)) (below_each last ys) below)

-- nor behind what is greater
none_later : (upto : Option Text) (y : Text) (ys : List Text) → is_upto upto y ≡ false → T (below_each y ys) → ids_upto upto ys ≡ []
none_later None y ys out below = absurd (true≢false out)
none_later (Some last) y ys out below = none_behind last ys (below_from_less last y ys (by (is_lt (text_cmp last y)) out) below)
  where
    by : (b : Bool) → not b ≡ false → T b
    by true h = tt
    by false h = absurd (true≢false h)

-- less than the end, where there is one
abbrev pub IsBefore : Text → Option Text → Type 0
IsBefore x None = Unit {0}
IsBefore x (Some last) = T (is_lt (text_cmp x last))

-- an identifier before the end stands up to it
before_the_end : (x : Text) (upto : Option Text) → IsBefore x upto → is_upto upto x ≡ true
before_the_end x None less = refl
before_the_end x (Some u) less =
    ap (λ o. not (is_lt o)) (nat_list_cmp_total.antisymm u x ∙ ap ordering_reverse (less_from_is_lt (text_cmp x u) less))

-- the end itself too
the_end_itself : (x : Text) → is_upto (Some x) x ≡ true
the_end_itself x = ap (λ o. not (is_lt o)) (tied_itself nat_list_cmp_total x)

-- what is cut stands behind what is less than all
cut_is_behind : (x : Text) (n : ℕ) (xs : List Text) → T (below_each x xs) → IsBefore x (first_cut n xs)
cut_is_behind x n [] below = tt
cut_is_behind x zero (y ∷ ys) below = first_holds (is_lt (text_cmp x y)) (below_each x ys) below
cut_is_behind x (suc n) (y ∷ ys) below = cut_is_behind x n ys (second_holds (is_lt (text_cmp x y)) (below_each x ys) below)

-- ---- the same front

pub record SameFront (n : ℕ) (xs ys : List Text) : Type 0 where
  pub front : take n xs ≡ take n ys
  pub cut : first_cut n xs ≡ first_cut n ys

same_end : (x : Text) (xs ys : List Text) → T (below_each x xs) → T (rises ys) → ids_upto (Some x) (x ∷ xs) ≡ ids_upto (Some x) ys → SameFront 0 (x ∷ xs) ys
same_end x xs ys below rise same = by ys rise (sym first ∙ same)
  where
    first : ids_upto (Some x) (x ∷ xs) ≡ x ∷ []
    first = ap (λ b. cond b (x ∷ ids_upto (Some x) xs) (ids_upto (Some x) xs)) (the_end_itself x)
        ∙ ap (λ rest. x ∷ rest) (none_behind x xs below)

    at : (y : Text) (zs : List Text) → T (below_each y zs) → (b : Bool) → is_upto (Some x) y ≡ b
        → x ∷ [] ≡ cond b (y ∷ ids_upto (Some x) zs) (ids_upto (Some x) zs) → SameFront 0 (x ∷ xs) (y ∷ zs)
    at y zs after true is same = let here : x ≡ y = cc in record { front = refl; cut = ap Some here }
    at y zs after false out same = let apart : x ∷ [] ≡ [] = same ∙ none_later (Some x) y zs out after in absurd (cc)

    by : (ys : List Text) → T (rises ys) → x ∷ [] ≡ ids_upto (Some x) ys → SameFront 0 (x ∷ xs) ys
    by [] rise same = absurd (cc)
    by (y ∷ zs) rise same = at y zs (first_holds (below_each y zs) (rises zs) rise) (is_upto (Some x) y) refl same

pub same_front : (n : ℕ) (xs ys : List Text) → T (rises xs) → T (rises ys) → ids_upto (first_cut n xs) xs ≡ ids_upto (first_cut n xs) ys → SameFront n xs ys
same_front n [] ys rise_x rise_y same =
    let none : [] ≡ ys = same ∙ all_without_end ys in
    record { front = ap (take n) none; cut = ap (first_cut n) none }
same_front zero (x ∷ xs) ys rise_x rise_y same = same_end x xs ys (first_holds (below_each x xs) (rises xs) rise_x) rise_y same
same_front (suc n) (x ∷ xs) ys rise_x rise_y same =
    by (λ zs. same_front n xs zs (second_holds (below_each x xs) (rises xs) rise_x)) ys rise_y (sym first ∙ same)
  where
    end : Option Text
    end = first_cut n xs

    IsCarried : Type 0
    IsCarried = (zs : List Text) → T (rises zs) → ids_upto end xs ≡ ids_upto end zs → SameFront n xs zs

    first : ids_upto end (x ∷ xs) ≡ x ∷ ids_upto end xs
    first = ap (λ b. cond b (x ∷ ids_upto end xs) (ids_upto end xs))
        (before_the_end x end (cut_is_behind x n xs (first_holds (below_each x xs) (rises xs) rise_x)))

    joined : (y : Text) (zs : List Text) → x ≡ y → SameFront n xs zs → SameFront (suc n) (x ∷ xs) (y ∷ zs)
    joined y zs here rest = record { front = λ i. here i ∷ rest.front i; cut = rest.cut }

    at : IsCarried → (y : Text) (zs : List Text) → T (below_each y zs) → T (rises zs) → (b : Bool) → is_upto end y ≡ b
        → x ∷ ids_upto end xs ≡ cond b (y ∷ ids_upto end zs) (ids_upto end zs)
        → SameFront (suc n) (x ∷ xs) (y ∷ zs)
    at later y zs after rise true is same =
        let here : x ≡ y = cc in
        let more : ids_upto end xs ≡ ids_upto end zs = cc in
        joined y zs here (later zs rise more)
    at later y zs after rise false out same = let apart : x ∷ ids_upto end xs ≡ [] = same ∙ none_later end y zs out after in absurd (cc)

    by : IsCarried → (ys : List Text) → T (rises ys) → x ∷ ids_upto end xs ≡ ids_upto end ys → SameFront (suc n) (x ∷ xs) ys
    by later [] rise same = absurd (cc)
    by later (y ∷ zs) rise same =
        at later y zs (first_holds (below_each y zs) (rises zs) rise) (second_holds (below_each y zs) (rises zs) rise) (is_upto end y) refl same

-- ---- pages of reports

-- identifiers of facts that pass rise
ids_below : (x : Text) (es : List (Text × Fact)) → below_each x (map (λ e. e.0) es) ≡ below_all text_cmp x es
ids_below x [] = refl
ids_below x (e ∷ es) = ap (λ b. is_lt (text_cmp x e.0) && b) (ids_below x es)

ids_rise : (es : List (Text × Fact)) → rises (map (λ e. e.0) es) ≡ is_sorted text_cmp es
ids_rise [] = refl
ids_rise (e ∷ es) = λ i. ids_below e.0 es i && ids_rise es i

below_filter : (test : Text → Bool) (x : Text) (ids : List Text) → T (below_each x ids) → T (below_each x (filter test ids))
below_filter test x [] below = tt
below_filter test x (y ∷ ys) below = by (test y) (below_filter test x ys (second_holds (is_lt (text_cmp x y)) (below_each x ys) below))
  where
    by : (b : Bool) → T (below_each x (filter test ys)) → T (below_each x (cond b (y ∷ filter test ys) (filter test ys)))
    by true rest = both_hold _ _ (first_holds (is_lt (text_cmp x y)) (below_each x ys) below) rest
    by false rest = rest

rises_filter : (test : Text → Bool) (ids : List Text) → T (rises ids) → T (rises (filter test ids))
rises_filter test [] rise = tt
rises_filter test (y ∷ ys) rise =
    by (test y) (below_filter test y ys (first_holds (below_each y ys) (rises ys) rise)) (rises_filter test ys (second_holds (below_each y ys) (rises ys) rise))
  where
    by : (b : Bool) → T (below_each y (filter test ys)) → T (rises (filter test ys)) → T (rises (cond b (y ∷ filter test ys) (filter test ys)))
    by true below rest = both_hold _ _ below rest
    by false below rest = rest

-- what a query finds rises, since the identifiers of a report do
pub page_query_rise : (query : PageQuery) (facts : TextMap Fact) → T (rises (ids_for query facts))
page_query_rise query facts =
    rises_filter (is_after query.after) (query_ids query.concept query.period facts)
    (subst T (sym (ids_rise passing)) (sorted-filter (λ id fact. answers_query query.concept query.period fact) facts.entries facts.sorted))
  where
    passing : List (Text × Fact)
    passing = filter (λ e. answers_query query.concept query.period e.1) facts.entries

-- up to an end it is what the range shows
pub page_query_upto : (query : PageQuery) (upto : Option Text) (es : List (Text × Fact))
    → ids_upto upto (ids_after query.after (map (λ e. e.0) (filter (λ e. answers_query query.concept query.period e.1) es)))
    ≡ map (λ e. e.0) (filter (λ e. is_within query.after upto e.0 && answers_query query.concept query.period e.1) es)
page_query_upto query upto [] = refl
page_query_upto query upto (e ∷ es) =
    by (answers_query query.concept query.period e.1) (is_after query.after e.0) refl (is_upto upto e.0) refl (page_query_upto query upto es)
  where
    rest : List Text
    rest = map (λ (e : Text × Fact). e.0) (filter (λ e. answers_query query.concept query.period e.1) es)

    seen : List (Text × Fact)
    seen = filter (λ e. is_within query.after upto e.0 && answers_query query.concept query.period e.1) es

    by : (a w : Bool) → is_after query.after e.0 ≡ w → (u : Bool) → is_upto upto e.0 ≡ u → ids_upto upto (ids_after query.after rest) ≡ map (λ e. e.0) seen
        → ids_upto upto (ids_after query.after
        (map (λ (e : Text × Fact). e.0)
        (cond a (e ∷ filter (λ e. answers_query query.concept query.period e.1) es)
        (filter (λ e. answers_query query.concept query.period e.1) es))))
        ≡ map (λ (e : Text × Fact). e.0) (cond ((w && u) && a) (e ∷ seen) seen)
    by true true after true last later =
        ap (λ b. ids_upto upto (cond b (e.0 ∷ ids_after query.after rest) (ids_after query.after rest))) after
        ∙ ap (λ b. cond b (e.0 ∷ ids_upto upto (ids_after query.after rest)) (ids_upto upto (ids_after query.after rest))) last
        ∙ ap (λ ids. e.0 ∷ ids) later
    by true true after false last later =
        ap (λ b. ids_upto upto (cond b (e.0 ∷ ids_after query.after rest) (ids_after query.after rest))) after
        ∙ ap (λ b. cond b (e.0 ∷ ids_upto upto (ids_after query.after rest)) (ids_upto upto (ids_after query.after rest))) last
        ∙ later
    by true false after true last later =
        ap (λ b. ids_upto upto (cond b (e.0 ∷ ids_after query.after rest) (ids_after query.after rest))) after ∙ later
    by true false after false last later =
        ap (λ b. ids_upto upto (cond b (e.0 ∷ ids_after query.after rest) (ids_after query.after rest))) after ∙ later
    by false true after true last later = later
    by false true after false last later = later
    by false false after true last later = later
    by false false after false last later = later
