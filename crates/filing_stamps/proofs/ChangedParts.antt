-- Which parts the stamps of fact changes stand in, and their number.
use Rattle.std.proofs.Common.{◌≡◌, ◌∙◌, ap, sym, refl, ℕ, Bool, true, false, cond, ◌&&◌, ◌||◌}
use Rattle.std.proofs.Common.{List, [], ◌∷◌, ◌++◌, Option, Some, None, is_none, Ordering, Less, Equal, Greater}
use Rattle.std.proofs.Common.{is_eq, true≢false}
use Rattle.std.proofs.Math.Bool.{or_self}
use Rattle.std.specs.Cmp.{Equal-is, tied_itself, tied_then, nat_cmp_total, eq_by_cmp_equiv}
use Rattle.std.specs.List.{AllByRecursion, list_any, flat_map}
use Rattle.std.specs.Option.{option_cmp, option_eq, option_map, option_map_or}
use Rattle.std.specs.Ordering.{nat_cmp, ordering_then}
use Rattle.filing_model.specs.Common.Text.{Text, text_cmp, text_eq}
use Rattle.filing_model.specs.Oim.Dimensions.{Dims, dims_cmp, dims_eq, concept_of, period_of}
use Rattle.filing_model.specs.Oim.Facts.{Fact}
use Rattle.filing_model.specs.Sessions.Calls.{PageQuery, PeriodFilter, Any, Without, Exactly}
use Rattle.filing_model.specs.Oim.Duplicates.{has_dims}
use Rattle.filing_model.specs.Sessions.Queries.{is_after, answers_query}
use Rattle.filing_model.specs.Histories.Touches.{is_within}
use Rattle.filing_model.proofs.Common.Texts.{text_cmp-Equal, text_eq-sym}
use Rattle.text_map.specs.Heads.{name_key}
use Rattle.filing_model.proofs.Oim.DimensionSets.{dims_cmp-total, dims_cmp-Equal, dims_same, nullable_Equal}
use Rattle.filing_model.proofs.Common.Tests.{both_are_equal}
use Rattle.filing_facts.specs.FactChanges.{FactChange, Part, Id, Cell, Range, is_touched, is_touched_by}
use Rattle.filing_stamps.specs.declared.stamp.StampKind.{StampKind}
use Rattle.filing_stamps.specs.declared.stamp.StampKind.TheVariants as kind
use Rattle.filing_stamps.specs.Stamps.{Group, no_group, group_cmp, group_hash, code_of, stamp_code, Stamp, stamps_of}
use Rattle.filing_stamps.specs.Stamps.{stamps_if_there, stamps_between, stamps_of_change}
use Rattle.filing_stamps.specs.Stamps.{Between, is_upto}
use Rattle.filing_stamps.specs.Stamps.{ids_side, among_side, part_among}
use Rattle.std.proofs.lemmas.List.Folds.{list_any-append}

-- all have the number
abbrev pub AllHave : {E : Type 0} → (E → ℕ) → ℕ → List E → Type 0
AllHave f n es = AllByRecursion (λ e. f e ≡ n) es

-- ---- tests

or_false : (b : Bool) → (b || false) ≡ b
or_false true = refl
or_false false = refl

and_true : (b : Bool) → (b && true) ≡ b
and_true true = refl
and_true false = refl

implied : (n g r : Bool) → (g ≡ true → n ≡ true) → (n && (g && r)) ≡ (g && r)
implied true g r f = refl
implied false true r f = absurd (true≢false (sym (f refl)))
implied false false r f = refl

implied_alone : (n g : Bool) → (g ≡ true → n ≡ true) → (n && g) ≡ g
implied_alone true g f = refl
implied_alone false true f = absurd (true≢false (sym (f refl)))
implied_alone false false f = refl

and_turned : (a b : Bool) → (a && b) ≡ (b && a)
and_turned true true = refl
and_turned true false = refl
and_turned false true = refl
and_turned false false = refl

-- ---- one group and another

group_cmp-Equal : (g h : Group) → group_cmp g h ≡ Equal → g ≡ h
group_cmp-Equal g h e =
    let one = both_are_equal (option_cmp dims_cmp g.dims h.dims) _ e in
    let two = both_are_equal (option_cmp text_cmp g.concept h.concept) _ one.1 in
    let dims = cells g.dims h.dims one.0 in
    let concept = nullable_Equal g.concept h.concept two.0 in
    let period = periods g.period h.period two.1 in
    λ i. record { dims = dims i; concept = concept i; period = period i }
  where
    cells : (x y : Option Dims) → option_cmp dims_cmp x y ≡ Equal → x ≡ y
    cells None None e = refl
    cells None (Some y) e = absurd (true≢false (sym (ap is_eq e)))
    cells (Some x) None e = absurd (true≢false (sym (ap is_eq e)))
    cells (Some x) (Some y) e = ap Some (dims_cmp-Equal x y e)

    periods : (x y : Option (Option Text)) → option_cmp (option_cmp text_cmp) x y ≡ Equal → x ≡ y
    periods None None e = refl
    periods None (Some y) e = absurd (true≢false (sym (ap is_eq e)))
    periods (Some x) None e = absurd (true≢false (sym (ap is_eq e)))
    periods (Some x) (Some y) e = ap Some (nullable_Equal x y e)

-- groups that tie have one code, so the code decides nothing
coded : (k : StampKind) (g h : Group) (r : Ordering)
    → is_eq (ordering_then (nat_cmp (code_of k (group_hash g)) (code_of k (group_hash h))) (ordering_then (group_cmp g h) r))
    ≡ (is_eq (group_cmp g h) && is_eq r)
coded k g h r =
    let codes : Ordering = nat_cmp (code_of k (group_hash g)) (code_of k (group_hash h)) in
    let groups : Ordering = group_cmp g h in
    sym (tied_then codes (ordering_then groups r)) ∙ ap (λ b. is_eq codes && b) (sym (tied_then groups r))
    ∙ implied (is_eq codes) (is_eq groups) (is_eq r) (λ e.
    ap (λ m. is_eq (nat_cmp (code_of k (group_hash g)) (code_of k (group_hash m)))) (sym (group_cmp-Equal g h ((Equal-is groups).0 e)))
    ∙ ap is_eq (tied_itself nat_cmp_total (code_of k (group_hash g))))

-- the code of an identifier
abbrev id_code : Text → ℕ
id_code id = code_of kind.Identifier (name_key id)

-- names that tie have one code
named : (id x : Text) → is_eq (ordering_then (nat_cmp (id_code id) (id_code x)) (text_cmp id x)) ≡ text_eq id x
named id x =
    let codes : Ordering = nat_cmp (id_code id) (id_code x) in
    sym (tied_then codes (text_cmp id x))
    ∙ implied_alone (is_eq codes) (is_eq (text_cmp id x)) (λ e.
    ap (λ y. is_eq (nat_cmp (id_code id) (id_code y))) (sym (text_cmp-Equal id x ((Equal-is (text_cmp id x)).0 e)))
    ∙ ap is_eq (tied_itself nat_cmp_total (id_code id)))

-- a text that may be missing, against one that is there
ties_with : (o : Option Text) (t : Text) → is_eq (option_cmp text_cmp o (Some t)) ≡ option_eq text_eq (Some t) o
ties_with None t = refl
ties_with (Some c) t = text_eq-sym c t

both_ways : (a b : Bool) → is_eq (cond a (cond b Equal Greater) Less) ≡ (a && b)
both_ways true true = refl
both_ways true false = refl
both_ways false b = refl

within_ties : (after upto : Option Text) (id : Text) → is_eq (ids_side (Between after upto) id) ≡ is_within after upto id
within_ties after upto id = both_ways (is_after after id) (is_upto upto id)

none_ties : (period : Option Text) → is_eq (option_cmp text_cmp period None) ≡ is_none period
none_ties None = refl
none_ties (Some x) = refl

-- ---- the stamps of one fact

-- whether a fact under its identifier stands in a part
abbrev stands_in : Part → Text → Fact → Bool
stands_in (Id x) id fact = text_eq x id
stands_in (Cell dims) id fact = has_dims dims fact
stands_in (Range query upto) id fact = is_within query.after upto id && answers_query query.concept query.period fact

abbrev pub hits : Part → List Stamp → Bool
hits part stamps = list_any (λ s. is_eq (among_side (part_among part) s)) stamps

-- a stamp of a kind that stands before that of a part or past it, and one of four alone
miss_low : (o : Ordering) → is_eq (ordering_then o Less) ≡ false
miss_low Less = refl
miss_low Equal = refl
miss_low Greater = refl

miss_high : (o : Ordering) → is_eq (ordering_then o Greater) ≡ false
miss_high Less = refl
miss_high Equal = refl
miss_high Greater = refl

only_first : (a b c d : Bool) → b ≡ false → c ≡ false → d ≡ false → (a || (b || (c || (d || false)))) ≡ a
only_first a b c d eb ec ed = (λ i. a || (eb i || (ec i || (ed i || false)))) ∙ or_false a

only_second : (a b c d : Bool) → a ≡ false → c ≡ false → d ≡ false → (a || (b || (c || (d || false)))) ≡ b
only_second a b c d ea ec ed = (λ i. ea i || (b || (ec i || (ed i || false)))) ∙ or_false b

only_third : (a b c d : Bool) → a ≡ false → b ≡ false → d ≡ false → (a || (b || (c || (d || false)))) ≡ c
only_third a b c d ea eb ed = (λ i. ea i || (eb i || (c || (ed i || false)))) ∙ or_false c

only_fourth : (a b c d : Bool) → a ≡ false → b ≡ false → c ≡ false → (a || (b || (c || (d || false)))) ≡ d
only_fourth a b c d ea eb ec = (λ i. ea i || (eb i || (ec i || (d || false)))) ∙ or_false d

-- one of the groups of a fact against that of a part, of the same kind
group_hits : (k : StampKind) (g h : Group) (r : Ordering) (group_ties ids_tie : Bool) → is_eq (group_cmp g h) ≡ group_ties → is_eq r ≡ ids_tie
    → is_eq (ordering_then (nat_cmp (code_of k (group_hash g)) (code_of k (group_hash h))) (ordering_then (group_cmp g h) r)) ≡ (group_ties && ids_tie)
group_hits k g h r a b ea eb = coded k g h r ∙ (λ i. ea i && eb i)

cell_ties : (dims other : Dims) → is_eq (group_cmp (record no_group { dims = Some other }) (record no_group { dims = Some dims })) ≡ dims_eq dims other
cell_ties dims other =
    sym (tied_then (dims_cmp other dims) Equal) ∙ and_true (dims_eq other dims) ∙ (eq_by_cmp_equiv dims_cmp-total).symm other dims

range_ties : (concept : Text) (c : Option Text) (p q : Option (Option Text))
    → is_eq (group_cmp (record no_group { concept = c; period = p }) (record no_group { concept = Some concept; period = q }))
    ≡ (option_eq text_eq (Some concept) c && is_eq (option_cmp (option_cmp text_cmp) p q))
range_ties concept c p q =
    sym (tied_then (option_cmp text_cmp c (Some concept)) (option_cmp (option_cmp text_cmp) p q))
    ∙ ap (λ b. b && is_eq (option_cmp (option_cmp text_cmp) p q)) (ties_with c concept)

-- how the code of a stamp of a kind stands to that of a part
abbrev code_side : Part → StampKind → Text → Fact → Ordering
code_side part k id fact = nat_cmp (stamp_code k (id, fact)) (part_among part).code

-- a range with another period filter
abbrev with_filter : PageQuery → Option Text → PeriodFilter → Part
with_filter query upto period = Range (record query { period = period }) upto

fact_hits : (part : Part) (n : ℕ) (id : Text) (fact : Fact) → hits part (stamps_of n (id, fact)) ≡ stands_in part id fact
fact_hits (Id x) n id fact =
    only_first _ _ _ _ (miss_high (code_side (Id x) kind.Cell id fact)) (miss_high (code_side (Id x) kind.AnyPeriod id fact))
    (miss_high (code_side (Id x) kind.OnePeriod id fact))
    ∙ named id x ∙ text_eq-sym id x
fact_hits (Cell dims) n id fact =
    only_second _ _ _ _ (miss_low (code_side (Cell dims) kind.Identifier id fact)) (miss_high (code_side (Cell dims) kind.AnyPeriod id fact))
    (miss_high (code_side (Cell dims) kind.OnePeriod id fact))
    ∙ group_hits kind.Cell (record no_group { dims = Some fact.dims }) (record no_group { dims = Some dims }) Equal (dims_eq dims fact.dims) true
    (cell_ties dims fact.dims) refl
    ∙ and_true (dims_eq dims fact.dims)
fact_hits (Range query upto) n id fact = by query.period
  where
    by : (period : PeriodFilter) → hits (with_filter query upto period) (stamps_of n (id, fact)) ≡ stands_in (with_filter query upto period) id fact
    by Any =
        only_third _ _ _ _ (miss_low (code_side (with_filter query upto Any) kind.Identifier id fact))
        (miss_low (code_side (with_filter query upto Any) kind.Cell id fact))
        (miss_high (code_side (with_filter query upto Any) kind.OnePeriod id fact))
        ∙ group_hits kind.AnyPeriod (record no_group { concept = concept_of fact.dims }) (record no_group { concept = Some query.concept })
        (ids_side (Between query.after upto) id) _ _ (range_ties query.concept (concept_of fact.dims) None None) (within_ties query.after upto id)
        ∙ and_turned _ (is_within query.after upto id)
    by Without =
        only_fourth _ _ _ _ (miss_low (code_side (with_filter query upto Without) kind.Identifier id fact))
        (miss_low (code_side (with_filter query upto Without) kind.Cell id fact))
        (miss_low (code_side (with_filter query upto Without) kind.AnyPeriod id fact))
        ∙ group_hits kind.OnePeriod (record no_group { concept = concept_of fact.dims; period = Some (period_of fact.dims) })
        (record no_group { concept = Some query.concept; period = Some None })
        (ids_side (Between query.after upto) id) _ _
        (range_ties query.concept (concept_of fact.dims) (Some (period_of fact.dims)) (Some None)
        ∙ ap (λ b. option_eq text_eq (Some query.concept) (concept_of fact.dims) && b) (none_ties (period_of fact.dims)))
        (within_ties query.after upto id)
        ∙ and_turned _ (is_within query.after upto id)
    by (Exactly text) =
        only_fourth _ _ _ _ (miss_low (code_side (with_filter query upto (Exactly text)) kind.Identifier id fact))
        (miss_low (code_side (with_filter query upto (Exactly text)) kind.Cell id fact))
        (miss_low (code_side (with_filter query upto (Exactly text)) kind.AnyPeriod id fact))
        ∙ group_hits kind.OnePeriod (record no_group { concept = concept_of fact.dims; period = Some (period_of fact.dims) })
        (record no_group { concept = Some query.concept; period = Some (Some text) })
        (ids_side (Between query.after upto) id) _ _
        (range_ties query.concept (concept_of fact.dims) (Some (period_of fact.dims)) (Some (Some text))
        ∙ ap (λ b. option_eq text_eq (Some query.concept) (concept_of fact.dims) && b) (ties_with (period_of fact.dims) text))
        (within_ties query.after upto id)
        ∙ and_turned _ (is_within query.after upto id)

-- ---- the stamps of fact changes

if_there : (part : Part) (n : ℕ) (id : Text) (fact : Option Fact)
    → hits part (stamps_if_there n (option_map (λ f. (id, f)) fact)) ≡ option_map_or (stands_in part id) fact false
if_there part n id None = refl
if_there part n id (Some fact) = fact_hits part n id fact

-- facts of the same dimensions stand in the same parts
stands_alike : (part : Part) (id : Text) (f g : Fact) → f.dims ≡ g.dims → stands_in part id f ≡ stands_in part id g
stands_alike (Id x) id f g e = refl
stands_alike (Cell dims) id f g e = ap (dims_eq dims) e
stands_alike (Range query upto) id f g e =
    let answers = answers_query query.concept query.period in
    ap (λ dims. is_within query.after upto id && answers (record f { dims = dims })) e

-- so what a new fact of the same dimensions leaves is all that is to be left
both_hit : (part : Part) (n : ℕ) (id : Text) (old new : Option Fact)
    → hits part (stamps_between n (option_map (λ f. (id, f)) old) (option_map (λ f. (id, f)) new))
    ≡ (option_map_or (stands_in part id) old false || option_map_or (stands_in part id) new false)
both_hit part n id old None = if_there part n id old ∙ sym (or_false _)
both_hit part n id None (Some new) = fact_hits part n id new
both_hit part n id (Some old) (Some new) = by (dims_eq old.dims new.dims) refl
  where
    by : (same : Bool) → dims_eq old.dims new.dims ≡ same
        → hits part (cond same (stamps_of n (id, new)) (stamps_of n (id, old) ++ stamps_of n (id, new)))
        ≡ (stands_in part id old || stands_in part id new)
    by true e =
        fact_hits part n id new
        ∙ sym (or_self (stands_in part id new))
        ∙ ap (λ b. b || stands_in part id new) (sym (stands_alike part id old new (dims_same old.dims new.dims e)))
    by false e =
        list_any-append (λ s. is_eq (among_side (part_among part) s)) (stamps_of n (id, old)) (stamps_of n (id, new))
        ∙ (λ i. fact_hits part n id old i || fact_hits part n id new i)

-- a test before one of two that may be missing
either_both : {X : Type 0} (a : Bool) (p : X → Bool) (x y : Option X)
    → (option_map_or (λ f. a && p f) x false || option_map_or (λ f. a && p f) y false) ≡ (a && (option_map_or p x false || option_map_or p y false))
either_both true p x y = refl
either_both false p None None = refl
either_both false p None (Some y) = refl
either_both false p (Some x) None = refl
either_both false p (Some x) (Some y) = refl

change_stands : (part : Part) (change : FactChange)
    → (option_map_or (stands_in part change.id) change.old false || option_map_or (stands_in part change.id) change.new false) ≡ is_touched_by part change
change_stands (Id x) change = ap (λ (b : Bool). b) (id_stands (text_eq x change.id) change.old change.new)
  where
    id_stands : (a : Bool) (old new : Option Fact)
        → (option_map_or (λ f. a) old false || option_map_or (λ f. a) new false)
        ≡ (a && (option_map_or (λ f. true) old false || option_map_or (λ f. true) new false))
    id_stands true old new = refl
    id_stands false None None = refl
    id_stands false None (Some y) = refl
    id_stands false (Some x) None = refl
    id_stands false (Some x) (Some y) = refl
change_stands (Cell dims) change = refl
change_stands (Range query upto) change = either_both (is_within query.after upto change.id) (answers_query query.concept query.period) change.old change.new

pub changes_hit : (part : Part) (n : ℕ) (fact_changes : List FactChange) → hits part (flat_map (stamps_of_change n) fact_changes) ≡ is_touched fact_changes part
changes_hit part n [] = refl
changes_hit part n (change ∷ fact_changes) =
    list_any-append (λ s. is_eq (among_side (part_among part) s)) (stamps_of_change n change) (flat_map (stamps_of_change n) fact_changes)
    ∙ (λ i. (both_hit part n change.id change.old change.new ∙ change_stands part change) i || changes_hit part n fact_changes i)

fact_has : (n : ℕ) (id : Text) (fact : Option Fact) → AllHave (λ s. s.number) n (stamps_if_there n (option_map (λ f. (id, f)) fact))
fact_has n id None = tt
fact_has n id (Some fact) = (refl, (refl, (refl, (refl, tt))))

both_have : (n : ℕ) (xs ys : List Stamp) → AllHave (λ s. s.number) n xs → AllHave (λ s. s.number) n ys → AllHave (λ s. s.number) n (xs ++ ys)
both_have n [] ys a b = b
both_have n (x ∷ xs) ys a b = (a.0, both_have n xs ys a.1 b)

between_has : (n : ℕ) (id : Text) (old new : Option Fact)
    → AllHave (λ s. s.number) n (stamps_between n (option_map (λ f. (id, f)) old) (option_map (λ f. (id, f)) new))
between_has n id old None = fact_has n id old
between_has n id None (Some new) = fact_has n id (Some new)
between_has n id (Some old) (Some new) = by (dims_eq old.dims new.dims)
  where
    by : (same : Bool) → AllHave (λ s. s.number) n (cond same (stamps_of n (id, new)) (stamps_of n (id, old) ++ stamps_of n (id, new)))
    by true = fact_has n id (Some new)
    by false = both_have n (stamps_of n (id, old)) (stamps_of n (id, new)) (fact_has n id (Some old)) (fact_has n id (Some new))

pub changes_have : (n : ℕ) (fact_changes : List FactChange) → AllHave (λ s. s.number) n (flat_map (stamps_of_change n) fact_changes)
changes_have n [] = tt
changes_have n (change ∷ fact_changes) =
    both_have n (stamps_of_change n change) (flat_map (stamps_of_change n) fact_changes) (between_has n change.id change.old change.new)
    (changes_have n fact_changes)
