-- Lemmas on dimension sets and prefixes that are made of lists: they may be sorted first.
use Rattle.std.proofs.Common.{◌≡◌, Bool, true, false, cond, not, ◌&&◌, T, List, map, Option, is_none, codes}
use Rattle.std.proofs.Common.{Result, Ok, Err, IsPermutation, Equal, ap, sym, subst, ◌∙◌, refl, true≢false, ◌||◌}
use Rattle.std.proofs.Common.{[], ◌∷◌, None, Some, is_some, is_eq, Decides}
use Rattle.std.specs.Cmp.{IsTotalOrder, Equal-is, tied_itself, on_total, then_total}
use Rattle.std.specs.Cmp.Lexicographic.{nat_list_cmp_total, options_total, lists_total}
use Rattle.std.specs.Option.{option_cmp, option_flatten}
use Rattle.std.specs.FinMap.Entries.{find, is_sorted}
use Rattle.std.proofs.lemmas.Bool.{or_parts, not-false}
use Rattle.std.specs.List.{list_any}
use Rattle.std.proofs.lemmas.List.Sorted.{IsPermutation-map, list_any-IsPermutation}
use Rattle.filing_model.specs.Common.Text.{Text, text_cmp, text_eq, has_repeats}
use Rattle.filing_model.specs.Common.TextMap.{TextMap, from_entries}
use Rattle.filing_model.specs.Oim.Prefixes.{prefixes_of}
use Rattle.filing_model.specs.Oim.Dimensions.{Dims, AreDims, dims_of, dim_cmp, dims_cmp, dims_eq, concept_of, is_core, is_null_core, is_concept, is_long_dim}
use Rattle.filing_model.specs.declared.faults.DimFault.{DimFault}
use Rattle.filing_model.specs.declared.faults.NamesFault.{NamesFault}
use Rattle.filing_model.specs.declared.faults.NamesFault.TheVariants as names_fault
use Rattle.filing_model.specs.declared.faults.DimFault.TheVariants.{NameTwice, NullCore, NoConcept, TooLong}
use Rattle.filing_model.proofs.Common.Texts.{text_cmp-Equal, text_eq-sym, text_decides, has_repeats-IsPermutation}
use Rattle.filing_model.proofs.Common.TextMaps.{same_list}
use Rattle.filing_model.proofs.Common.MapsOfLists.{from_entries-IsPermutation, from_entries-sorted, IsPermutation-from_entries, no_repeats_from_sorted, names}
use Rattle.filing_model.proofs.Common.Tests.{both_are_equal, no_fault, same_Ok}

-- branches that agree where they are taken
at_false : {A : Type 0} (b : Bool) (e x y : A) → (b ≡ false → x ≡ y) → cond b e x ≡ cond b e y
at_false true e x y h = refl
at_false false e x y h = h refl

same_repeats : {X : Type 0} (es fs : List (Text × X)) → IsPermutation es fs → has_repeats (names es) ≡ has_repeats (names fs)
same_repeats es fs p = has_repeats-IsPermutation _ _ (IsPermutation-map (λ e. e.0) es fs p)

-- the fault or the set, for dimensions whose names are not repeated and that give this set
abbrev pub judged : List (Text × Option Text) → Dims → Result Dims DimFault
judged named dims =
    cond (list_any is_null_core named) (Err NullCore)
    (cond (not (list_any is_concept named)) (Err NoConcept)
    (cond (list_any is_long_dim named) (Err TooLong) (Ok dims)))

pub dims_of-IsPermutation : (ds es : List (Text × Option Text)) → IsPermutation ds es → dims_of ds ≡ dims_of es
dims_of-IsPermutation ds es p =
    at_false (has_repeats (names ds)) (Err NameTwice) (judged ds (from_entries ds).entries) (judged es (from_entries es).entries) (λ n i.
    cond (list_any-IsPermutation is_null_core ds es p i) (Err NullCore)
    (cond (not (list_any-IsPermutation is_concept ds es p i)) (Err NoConcept)
    (cond (list_any-IsPermutation is_long_dim ds es p i) (Err TooLong) (Ok (from_entries-IsPermutation ds es p n i)))))
    ∙ ap (λ b. cond b (Err NameTwice) (judged es (from_entries es).entries)) (same_repeats ds es p)

-- ---- sorted dimensions

-- of names that strictly rise the set is the list itself
pub dims_of-sorted : (ds : Dims) → T (is_sorted text_cmp ds) → dims_of ds ≡ judged ds ds
dims_of-sorted ds h =
    ap (λ b. cond b (Err NameTwice) (judged ds (from_entries ds).entries)) (no_repeats_from_sorted ds h) ∙ ap (judged ds) (from_entries-sorted ds h)

-- ---- what a dimension set is

pub AreDims-from_Ok : (named : List (Text × Option Text)) (ds : Dims) → dims_of named ≡ Ok ds → AreDims ds
AreDims-from_Ok named ds h =
    let one = no_fault _ _ _ _ h in
    let two = no_fault _ _ _ _ one.1 in
    let three = no_fault _ _ _ _ two.1 in
    let four = no_fault _ _ _ _ three.1 in
    let is = same_Ok _ _ four.1 in
    let move = IsPermutation-from_entries named one.0 in
    subst AreDims is (record {
      rise = (from_entries named).sorted;
      no_null = sym (list_any-IsPermutation is_null_core named _ move) ∙ two.0;
      concept = sym (list_any-IsPermutation is_concept named _ move) ∙ not-false _ three.0;
      short = sym (list_any-IsPermutation is_long_dim named _ move) ∙ four.0;
    })

pub Ok-from_AreDims : (ds : Dims) → AreDims ds → dims_of ds ≡ Ok ds
Ok-from_AreDims ds h = dims_of-sorted ds h.rise ∙ (λ i. cond (h.no_null i) (Err NullCore) (cond (not (h.concept i)) (Err NoConcept) (cond (h.short i) (Err TooLong) (Ok ds))))

-- ---- prefixes

-- the fault or the map, for prefixes that are not repeated and that give this map
abbrev judged_prefixes : List (Text × Text) → List (Text × Text) → Result (TextMap Text) NamesFault
judged_prefixes bs cs = cond (has_repeats (map (λ e. e.1) bs)) (Err names_fault.AliasTwice) (Ok (from_entries cs))

pub prefixes_of-IsPermutation : (bs cs : List (Text × Text)) → IsPermutation bs cs → prefixes_of bs ≡ prefixes_of cs
prefixes_of-IsPermutation bs cs p =
    at_false (has_repeats (names bs)) (Err names_fault.NameTwice) (judged_prefixes bs bs) (judged_prefixes bs cs) (λ n i.
    cond (has_repeats (map (λ e. e.1) bs)) (Err names_fault.AliasTwice) (Ok (same_list (from_entries bs) (from_entries cs) (from_entries-IsPermutation bs cs p n) i)))
    ∙ (λ i. cond (same_repeats bs cs p i) (Err names_fault.NameTwice)
    (cond (has_repeats-IsPermutation _ _ (IsPermutation-map (λ e. e.1) bs cs p) i) (Err names_fault.AliasTwice)
    (Ok (from_entries cs))))

-- ---- the order of dimension sets

pub dim_cmp-total : IsTotalOrder dim_cmp
dim_cmp-total = then_total (on_total (λ d. d.0) nat_list_cmp_total) (on_total (λ d. d.1) (options_total nat_list_cmp_total))

pub dims_cmp-total : IsTotalOrder dims_cmp
dims_cmp-total = lists_total dim_cmp-total

pub nullable_Equal : (x y : Option Text) → option_cmp text_cmp x y ≡ Equal → x ≡ y
nullable_Equal None None h = refl
nullable_Equal None (Some y) h = absurd (true≢false (sym (ap is_eq h)))
nullable_Equal (Some x) None h = absurd (true≢false (sym (ap is_eq h)))
nullable_Equal (Some x) (Some y) h = ap (λ t. Some t) (text_cmp-Equal x y h)

pub dims_cmp-Equal : (ds es : Dims) → dims_cmp ds es ≡ Equal → ds ≡ es
dims_cmp-Equal [] [] h = refl
dims_cmp-Equal [] (e ∷ es) h = absurd (true≢false (sym (ap is_eq h)))
dims_cmp-Equal (d ∷ ds) [] h = absurd (true≢false (sym (ap is_eq h)))
dims_cmp-Equal (d ∷ ds) (e ∷ es) h =
    let parts = both_are_equal (dim_cmp d e) (dims_cmp ds es) h in
    let here = both_are_equal (text_cmp d.0 e.0) (option_cmp text_cmp d.1 e.1) parts.0 in
    λ i. (text_cmp-Equal d.0 e.0 here.0 i, nullable_Equal d.1 e.1 here.1 i) ∷ dims_cmp-Equal ds es parts.1 i

pub dims_eq-refl : (ds : Dims) → dims_eq ds ds ≡ true
dims_eq-refl ds = ap is_eq (tied_itself dims_cmp-total ds)

pub dims_decides : (ds es : Dims) → Decides (dims_eq ds es) (ds ≡ es)
dims_decides ds es = (λ h. dims_cmp-Equal ds es ((Equal-is (dims_cmp ds es)).0 h), λ h. ap (dims_eq ds) (sym h) ∙ dims_eq-refl ds)

pub dims_same : (ds es : Dims) → dims_eq ds es ≡ true → ds ≡ es
dims_same ds es e = (dims_decides ds es).0 e

-- ---- a dimension set has a concept

not_none : (o : Option Text) → is_none o ≡ false → is_some (option_flatten (Some o)) ≡ true
not_none None h = absurd (true≢false h)
not_none (Some x) h = refl

concept_found : (ds : Dims) → list_any is_null_core ds ≡ false → list_any is_concept ds ≡ true → is_some (concept_of ds) ≡ true
concept_found [] n c = absurd (true≢false (sym c))
concept_found (d ∷ ds) n c =
    let parts = or_parts (is_core d.0 && is_none d.1) _ n in
    let flip = text_eq-sym (codes "concept") d.0 in
    elim (text_eq d.0 (codes "concept")) as (λ b. text_eq d.0 (codes "concept") ≡ b → (b || list_any is_concept ds) ≡ true → is_some (concept_of (d ∷ ds)) ≡ true) [
      | true ↦ λ t _. ap (λ b. is_some (option_flatten (cond b (Some d.1) (find text_cmp (codes "concept") ds)))) (flip ∙ t)
          ∙ not_none d.1 (ap (λ name. is_core name && is_none d.1) (sym ((text_decides d.0 (codes "concept")).0 t)) ∙ parts.0)
      | false ↦ λ t c'. ap (λ b. is_some (option_flatten (cond b (Some d.1) (find text_cmp (codes "concept") ds)))) (flip ∙ t) ∙ concept_found ds parts.1 c'
    ] refl c

pub concept-AreDims : (ds : Dims) → AreDims ds → is_some (concept_of ds) ≡ true
concept-AreDims ds h = concept_found ds h.no_null h.concept
