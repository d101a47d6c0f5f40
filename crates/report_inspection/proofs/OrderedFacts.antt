-- Facts in the order of their dimension sets.
use Rattle.std.proofs.Common.{◌≡◌, ◌∙◌, ap, sym, subst, refl, suc, ◌+◌, ◌&&◌, Bool, true, false, cond, not, List, [], ◌∷◌, map, filter, ◌⊎◌, inl, inr, Ordering, Less, Equal, Greater, is_lt, is_eq, arith, String}
use Rattle.std.specs.Cmp.{IsStrictWeakOrder}
use Rattle.std.specs.declared.alloc.Global.{Global}
use Rattle.std.specs.declared.sync.Arc.{Arc}
use Rattle.std.specs.List.{AllByRecursion}
use Rattle.std.specs.List.Sorted.{IsSortedBy, IsStableBy, ties}
use Rattle.std.specs.Ordering.{ordering_reverse}
use Rattle.std.proofs.lemmas.List.Sorted.{ranks_by}
use Rattle.filing_model.specs.Common.Text.{Text}
use Rattle.filing_model.specs.Oim.Dimensions.{Dims, dims_cmp, dims_eq}
use Rattle.filing_model.specs.Oim.Duplicates.{cell_of}
use Rattle.filing_model.specs.Oim.Facts.{Fact}
use Rattle.filing_model.proofs.Oim.DimensionSets.{dims_cmp-total, dims_same}
use Rattle.oim_report.specs.Parts.{fact_view, facts_view}
use Rattle.report_inspection.specs.Runs.{AreInOrder, NoneFalls, dims_in}

-- an identifier with its fact, as they are held
abbrev pub Held : Type 0
Held = String Global × Arc Fact Global

abbrev pub dims_of : Held → Dims
dims_of e = dims_in (fact_view e)

abbrev pub is_before : Held → Held → Bool
is_before x y = is_lt (dims_cmp (dims_of x) (dims_of y))

pub is_before-ranks : IsStrictWeakOrder is_before
is_before-ranks = ranks_by dims_cmp-total dims_of

-- ---- none falls

next_in_order : (e : Held) (es : List (Held)) → IsSortedBy is_before (e ∷ es) → IsSortedBy is_before es
next_in_order e es h k d low high =
    let next : suc k + 1 ≡ suc (k + 1) = omega arith in
    rw next at (h (suc k) d (omega arith) (omega arith))

-- what is not less than one is not less than a lesser
passed_on : (e f : Held) (es : List (Held)) → is_before f e ≡ false
    → AllByRecursion (λ later. is_lt (dims_cmp (dims_in later) (dims_of f)) ≡ false) (facts_view es)
    → AllByRecursion (λ later. is_lt (dims_cmp (dims_in later) (dims_of e)) ≡ false) (facts_view es)
passed_on e f [] h all = tt
passed_on e f (g ∷ es) h (first, rest) = (is_before-ranks.chain g f e first h, passed_on e f es h rest)

none_later : (e : Held) (es : List (Held)) → IsSortedBy is_before (e ∷ es)
    → AllByRecursion (λ later. is_lt (dims_cmp (dims_in later) (dims_of e)) ≡ false) (facts_view es)
none_later e [] h = tt
none_later e (f ∷ es) h =
    let first : is_before f e ≡ false = h 0 e (omega arith) (omega arith) in
    (first, passed_on e f es first (none_later f es (next_in_order e (f ∷ es) h)))

pub none_falls : (es : List (Held)) → IsSortedBy is_before es → NoneFalls (facts_view es)
none_falls [] h = tt
none_falls (e ∷ es) h = (none_later e es h, none_falls es (next_in_order e es h))

-- ---- each cell is what it was

tied_at : (o p : Ordering) → p ≡ ordering_reverse o → (not (is_lt o) && not (is_lt p)) ≡ is_eq o
tied_at Less p h = refl
tied_at Equal p h = ap (λ q. not (is_lt q)) h
tied_at Greater p h = ap (λ q. not (is_lt q)) h

-- neither is less exactly where the dimensions are the same
tied : (x y : Held) → ties is_before x y ≡ dims_eq (dims_of x) (dims_of y)
tied x y = tied_at (dims_cmp (dims_of x) (dims_of y)) (dims_cmp (dims_of y) (dims_of x)) (dims_cmp-total.antisymm (dims_of y) (dims_of x))

tied_cell_at : (b c : Bool) (x : Text × Fact) (xs ys : List (Text × Fact)) → b ≡ c → xs ≡ ys → cond b (x ∷ xs) xs ≡ cond c (x ∷ ys) ys
tied_cell_at b c x xs ys h k = λ i. cond (h i) (x ∷ k i) (k i)

kept_at : (b : Bool) (y : Held) (ys : List (Held)) → facts_view (cond b (y ∷ ys) ys) ≡ cond b (fact_view y ∷ facts_view ys) (facts_view ys)
kept_at true y ys = refl
kept_at false y ys = refl

-- those that tie with one are its cell
tied_cell : (x : Held) (ys : List (Held)) → facts_view (filter (ties is_before x) ys) ≡ cell_of (dims_of x) (facts_view ys)
tied_cell x [] = refl
tied_cell x (y ∷ ys) =
    kept_at (ties is_before x y) y (filter (ties is_before x) ys)
    ∙ tied_cell_at (ties is_before x y) (dims_eq (dims_of x) (dims_of y)) (fact_view y) _ _ (tied x y) (tied_cell x ys)

-- one with these dimensions, or their cell is empty
record Has (dims : Dims) : Type 0 where
  one : Held
  is : dims_of one ≡ dims

has_at : (dims : Dims) (b : Bool) (y : Held) (ys : List (Held)) → dims_eq dims (dims_of y) ≡ b → Has dims ⊎ (cell_of dims (facts_view ys) ≡ [])
    → Has dims ⊎ (cond b (fact_view y ∷ cell_of dims (facts_view ys)) (cell_of dims (facts_view ys)) ≡ [])
has_at dims true y ys h later = inl (record { one = y; is = sym (dims_same dims (dims_of y) h) })
has_at dims false y ys h later = later

has : (dims : Dims) (ys : List (Held)) → Has dims ⊎ (cell_of dims (facts_view ys) ≡ [])
has dims [] = inr refl
has dims (y ∷ ys) = has_at dims (dims_eq dims (dims_of y)) y ys refl (has dims ys)

of_one : (xs ys : List (Held)) → IsStableBy is_before xs ys → (dims : Dims) → Has dims
    → cell_of dims (facts_view ys) ≡ cell_of dims (facts_view xs)
of_one xs ys stable dims h =
    subst (λ ds. cell_of ds (facts_view ys) ≡ cell_of ds (facts_view xs)) h.is
    (sym (tied_cell h.one ys) ∙ ap facts_view (stable h.one) ∙ tied_cell h.one xs)

same_cells : (xs ys : List (Held)) → IsStableBy is_before xs ys → (dims : Dims)
    → Has dims ⊎ (cell_of dims (facts_view xs) ≡ []) → Has dims ⊎ (cell_of dims (facts_view ys) ≡ [])
    → cell_of dims (facts_view ys) ≡ cell_of dims (facts_view xs)
same_cells xs ys stable dims (inl h) k = of_one xs ys stable dims h
same_cells xs ys stable dims (inr h) (inl k) = of_one xs ys stable dims k
same_cells xs ys stable dims (inr h) (inr k) = k ∙ sym h

-- what a stable sort leaves
pub in_order : (xs ys : List (Held)) → IsSortedBy is_before ys → IsStableBy is_before xs ys → AreInOrder (facts_view xs) (facts_view ys)
in_order xs ys sorted stable = record {
  rise = none_falls ys sorted;
  cells = λ dims. same_cells xs ys stable dims (has dims xs) (has dims ys);
}
