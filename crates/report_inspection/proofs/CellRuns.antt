-- The cells of facts in the order of their dimension sets, run by run.
use Rattle.std.proofs.Common.{◌≡◌, ◌∙◌, ap, sym, subst, refl, ℕ, suc, ◌+◌, ◌-◌, get_or, ◌<◌, ◌≤◌, take, drop, Bool, true, false, cond, ◌||◌, nat_lt, true≢false, List, [], ◌∷◌, ◌++◌, length, map, ◌⊎◌, inl, inr, Ordering, Less, Equal, Greater, is_lt, is_eq, arith}
use Rattle.std.proofs.lemmas.List.{append-nil, append_assoc, length-map}
use Rattle.std.proofs.lemmas.List.Elements.{filter-append}
use Rattle.std.proofs.lemmas.Bool.{or_right, ltb-true}
use Rattle.std.proofs.lemmas.List.Folds.{list_any-append}
use Rattle.std.specs.List.{AllByRecursion}
use Rattle.std.specs.Ordering.{ordering_reverse}
use Rattle.std.specs.List.Sorted.{IsStrictlySortedBy}
use Rattle.filing_model.specs.Common.Text.{Text}
use Rattle.filing_model.specs.Oim.Dimensions.{Dims, dims_cmp, dims_eq}
use Rattle.filing_model.specs.Oim.Duplicates.{allows, cell_of, class_of, facts_of, has_dims}
use Rattle.filing_model.specs.declared.duplicates.Class.{Class}
use Rattle.filing_model.proofs.Oim.ByPairs.{first_and_rest}
use Rattle.filing_model.specs.Oim.Facts.{Fact}
use Rattle.filing_model.specs.declared.duplicates.Allowed.{Allowed}
use Rattle.filing_model.proofs.Oim.DimensionSets.{dims_cmp-total, dims_cmp-Equal, dims_eq-refl, dims_same}
use Rattle.report_inspection.specs.Cells.{AreCells, IsCell, ToldCell, cell_at, has_cell, is_shared, with_run}
use Rattle.oim_report.specs.Parts.{fact_view, facts_view}
use Rattle.report_inspection.specs.Runs.{AreInOrder, Differs, HaveDims, IsRun, NoneFalls, dims_in, run_length}
use Rattle.report_inspection.proofs.OrderedFacts.{Held, dims_of}

abbrev pub Entry : Type 0
Entry = Text × Fact

-- ---- facts before and behind some dimensions

abbrev IsBelow : Dims → Entry → Type 0
IsBelow dims e = dims_cmp (dims_in e) dims ≡ Less

abbrev IsAbove : Dims → Entry → Type 0
IsAbove dims e = dims_cmp dims (dims_in e) ≡ Less

pub all_more : {X : Type 0} (P : X → Type 0) (xs ys : List X) → AllByRecursion P xs → AllByRecursion P ys → AllByRecursion P (xs ++ ys)
all_more P [] ys h k = k
all_more P (x ∷ xs) ys (h, hs) k = (h, all_more P xs ys hs k)

pub all_mapped : {X : Type 0} (P Q : X → Type 0) → ((x : X) → P x → Q x) → (xs : List X) → AllByRecursion P xs → AllByRecursion Q xs
all_mapped P Q follows [] h = tt
all_mapped P Q follows (x ∷ xs) (h, hs) = (follows x h, all_mapped P Q follows xs hs)

-- ---- cells of a front and a run

whole_run : (dims : Dims) (run : List Entry) → HaveDims dims run → cell_of dims run ≡ run
whole_run dims [] h = refl
whole_run dims (e ∷ run) (first, rest) =
    ap (λ b. cond b (e ∷ cell_of dims run) (cell_of dims run)) (ap (dims_eq dims) first ∙ dims_eq-refl dims)
    ∙ ap (λ es. e ∷ es) (whole_run dims run rest)

none_at : (dims : Dims) (es : List Entry) → AllByRecursion (λ e. dims_eq dims (dims_in e) ≡ false) es → cell_of dims es ≡ []
none_at dims [] h = refl
none_at dims (e ∷ es) (first, rest) = ap (λ b. cond b (e ∷ cell_of dims es) (cell_of dims es)) first ∙ none_at dims es rest

below_is_other : (dims : Dims) (e : Entry) → IsBelow dims e → dims_eq dims (dims_in e) ≡ false
below_is_other dims e h = ap is_eq (dims_cmp-total.antisymm dims (dims_in e) ∙ ap ordering_reverse h)

-- dimensions whose cell is not empty are before those that all facts are before
nonempty_at : (dims other : Dims) (e : Entry) (rest : List Entry) (b : Bool) → dims_eq dims (dims_in e) ≡ b → IsBelow other e
    → (0 < length rest → dims_cmp dims other ≡ Less) → 0 < length (cond b (e ∷ rest) rest) → dims_cmp dims other ≡ Less
nonempty_at dims other e rest true is below later some = subst (λ ds. dims_cmp ds other ≡ Less) (sym (dims_same dims (dims_in e) is)) below
nonempty_at dims other e rest false is below later some = later some

nonempty_is_below : (dims other : Dims) (es : List Entry) → AllByRecursion (IsBelow other) es → 0 < length (cell_of dims es)
    → dims_cmp dims other ≡ Less
nonempty_is_below dims other [] h some = let no : ⊥ = omega (arith, some) in absurd no
nonempty_is_below dims other (e ∷ es) h some =
    nonempty_at dims other e (cell_of dims es) (dims_eq dims (dims_in e)) refl h.0 (nonempty_is_below dims other es h.1) some

-- the cell of the run's dimensions is the run, where all facts before are below
cell_of_run : (dims : Dims) (before run : List Entry) → AllByRecursion (IsBelow dims) before → HaveDims dims run → cell_of dims (before ++ run) ≡ run
cell_of_run dims before run below has =
    filter-append (λ e. has_dims dims e.1) before run
    ∙ (λ i. none_at dims before (all_mapped (IsBelow dims) (λ e. dims_eq dims (dims_in e) ≡ false) (below_is_other dims) before below) i
    ++ whole_run dims run has i)

-- the other cells stay
cell_stays : (q dims : Dims) (before run : List Entry) → dims_eq q dims ≡ false → HaveDims dims run → cell_of q (before ++ run) ≡ cell_of q before
cell_stays q dims before run other has =
    filter-append (λ e. has_dims q e.1) before run
    ∙ (λ i. cell_of q before ++ none_at q run
    (all_mapped (λ e. dims_in e ≡ dims) (λ e. dims_eq q (dims_in e) ≡ false) (λ e is. ap (dims_eq q) is ∙ other) run has) i)
    ∙ append-nil (cell_of q before)

-- ---- one more run

-- a cell is told by its facts alone
abbrev pub told_of : Allowed → Dims → List Entry → ToldCell
told_of a q es = record {
  dims = q;
  class = class_of (facts_of es);
  ids = map (λ e. e.0) es;
  allowed = allows a (class_of (facts_of es));
}

pub same_cell : (a : Allowed) (q : Dims) (es fs : List Entry) → cell_of q es ≡ cell_of q fs → cell_at a es q ≡ cell_at a fs q
same_cell a q es fs same = ap (told_of a q) same

pub same_shared : (q : Dims) (es fs : List Entry) → cell_of q es ≡ cell_of q fs → is_shared es q ≡ is_shared fs q
same_shared q es fs same = ap (λ xs. nat_lt 1 (length xs)) same

some_shared : (n : ℕ) → nat_lt 1 n ≡ true → 0 < n
some_shared n h = let more = ltb-true 1 n h in omega (arith, more)

cells_below : (a : Allowed) (before : List Entry) (dims : Dims) → AllByRecursion (IsBelow dims) before → (cells : List ToldCell)
    → AllByRecursion (IsCell a before) cells → AllByRecursion (λ cell. dims_cmp cell.dims dims ≡ Less) cells
cells_below a before dims below cells h =
    all_mapped (IsCell a before) (λ cell. dims_cmp cell.dims dims ≡ Less)
    (λ cell is. nonempty_is_below cell.dims dims before below (some_shared _ is.shared)) cells h

less_is_other : (q dims : Dims) → dims_cmp q dims ≡ Less → dims_eq q dims ≡ false
less_is_other q dims h = ap is_eq h

-- a cell of those before, after the run
cells_stay : (a : Allowed) (before run : List Entry) (dims : Dims) → AllByRecursion (IsBelow dims) before → HaveDims dims run
    → (cells : List ToldCell) → AllByRecursion (IsCell a before) cells → AllByRecursion (IsCell a (before ++ run)) cells
cells_stay a before run dims below has cells h =
    all_mapped (IsCell a before) (IsCell a (before ++ run)) (λ cell is.
    let q = cell.dims in
    let same = cell_stays q dims before run
    (less_is_other q dims (nonempty_is_below q dims before below (some_shared _ is.shared))) has in
    record {
      is = is.is ∙ sym (same_cell a q (before ++ run) before same);
      shared = same_shared q (before ++ run) before same ∙ is.shared;
    }) cells h

rise_more : (cells : List ToldCell) (cell : ToldCell) → IsStrictlySortedBy dims_cmp (map (λ c. c.dims) cells)
    → AllByRecursion (λ c. dims_cmp c.dims cell.dims ≡ Less) cells → IsStrictlySortedBy dims_cmp (map (λ c. c.dims) (cells ++ cell ∷ []))
unfolding IsStrictlySortedBy
rise_more [] cell h below = (tt, tt)
rise_more (c ∷ cells) cell (first, rest) (here, below) = (all_below c.dims cells first here, rise_more cells cell rest below)
  where
    all_below : (ds : Dims) (cells : List ToldCell) → AllByRecursion (λ y. dims_cmp ds y ≡ Less) (map (λ c. c.dims) cells) → dims_cmp ds cell.dims ≡ Less
        → AllByRecursion (λ y. dims_cmp ds y ≡ Less) (map (λ c. c.dims) (cells ++ cell ∷ []))
    all_below ds [] h here = (here, tt)
    all_below ds (c ∷ cells) (first, rest) here = (first, all_below ds cells rest here)

has_more : (cells : List ToldCell) (cell : ToldCell) (q : Dims) → (has_cell cells q ≡ true) ⊎ (dims_eq q cell.dims ≡ true)
    → has_cell (cells ++ cell ∷ []) q ≡ true
has_more cells cell q h = list_any-append (λ c. dims_eq q c.dims) cells (cell ∷ []) ∙ either h
  where
    either : (has_cell cells q ≡ true) ⊎ (dims_eq q cell.dims ≡ true) → (has_cell cells q || (dims_eq q cell.dims || false)) ≡ true
    either (inl h) = ap (λ b. b || (dims_eq q cell.dims || false)) h
    either (inr h) = ap (λ b. has_cell cells q || (b || false)) h ∙ or_right (has_cell cells q) true refl

-- a run of more than one fact is one more cell
one_more_run : (a : Allowed) (before run : List Entry) (dims : Dims) (cells : List ToldCell) → AreCells a before cells
    → AllByRecursion (IsBelow dims) before → HaveDims dims run → nat_lt 1 (length run) ≡ true
    → AreCells a (before ++ run) (cells ++ cell_at a run dims ∷ [])
one_more_run a before run dims cells h below has more = record {
  rise = rise_more cells (cell_at a run dims) h.rise (cells_below a before dims below cells h.each);
  each =
      all_more (IsCell a (before ++ run)) cells (cell_at a run dims ∷ [])
      (cells_stay a before run dims below has cells h.each) (
        record {
          is = ap (told_of a dims) (whole_run dims run has ∙ sym whole);
          shared = ap (λ xs. nat_lt 1 (length xs)) whole ∙ more;
        },
        tt,
      );
  every = λ q shared. has_more cells (cell_at a run dims) q (pick q (dims_eq q dims) refl shared);
}
  where
    whole : cell_of dims (before ++ run) ≡ run
    whole = cell_of_run dims before run below has

    pick : (q : Dims) (b : Bool) → dims_eq q dims ≡ b → is_shared (before ++ run) q ≡ true → (has_cell cells q ≡ true) ⊎ (dims_eq q dims ≡ true)
    pick q true is shared = inr is
    pick q false is shared = inl (h.every q (sym (same_shared q (before ++ run) before (cell_stays q dims before run is has)) ∙ shared))

-- any other is none
same_run : (a : Allowed) (before run : List Entry) (dims : Dims) (cells : List ToldCell) → AreCells a before cells
    → AllByRecursion (IsBelow dims) before → HaveDims dims run → nat_lt 1 (length run) ≡ false → AreCells a (before ++ run) cells
same_run a before run dims cells h below has few = record {
  rise = h.rise;
  each = cells_stay a before run dims below has cells h.each;
  every = λ q shared. pick q (dims_eq q dims) refl shared;
}
  where
    whole : cell_of dims (before ++ run) ≡ run
    whole = cell_of_run dims before run below has

    pick : (q : Dims) (b : Bool) → dims_eq q dims ≡ b → is_shared (before ++ run) q ≡ true → has_cell cells q ≡ true
    pick q true is shared =
        let same : is_shared (before ++ run) dims ≡ true = ap (is_shared (before ++ run)) (sym (dims_same q dims is)) ∙ shared in
        absurd (true≢false (sym same ∙ ap (λ xs. nat_lt 1 (length xs)) whole ∙ few))
    pick q false is shared = h.every q (sym (same_shared q (before ++ run) before (cell_stays q dims before run is has)) ∙ shared)

-- ---- the walk over all runs

-- what was walked over is below what is left, and its cells are told
pub record Walked (a : Allowed) (es left : List Entry) (cells : List ToldCell) : Type 0 where
  pub before : List Entry
  pub parts : es ≡ before ++ left
  pub cells_are : AreCells a before cells
  pub below : AllByRecursion (λ e. AllByRecursion (λ f. dims_cmp (dims_in e) (dims_in f) ≡ Less) left) before
  pub rise : NoneFalls left

pub no_cells : (a : Allowed) → AreCells a [] []
unfolding IsStrictlySortedBy
no_cells a = record {
  rise = tt;
  each = tt;
  every = λ q shared. absurd (true≢false (sym shared));
}

pub walk_begins : (a : Allowed) (es : List Entry) → NoneFalls es → Walked a es es []
walk_begins a es h = record { before = []; parts = refl; cells_are = no_cells a; below = tt; rise = h }

pub walk_ends : (a : Allowed) (es left : List Entry) (cells : List ToldCell) → left ≡ [] → Walked a es left cells → AreCells a es cells
walk_ends a es left cells none h =
    subst (λ es. AreCells a es cells) (sym (h.parts ∙ ap (λ xs. h.before ++ xs) none ∙ append-nil h.before)) h.cells_are

-- ---- one step of it

behind_run : (P : Entry → Type 0) (run rest : List Entry) → AllByRecursion P (run ++ rest) → AllByRecursion P rest
behind_run P [] rest h = h
behind_run P (e ∷ run) rest h = behind_run P run rest h.1

falls_behind : (run rest : List Entry) → NoneFalls (run ++ rest) → NoneFalls rest
falls_behind [] rest h = h
falls_behind (e ∷ run) rest h = falls_behind run rest h.1

strictly : (dims other : Dims) → is_lt (dims_cmp other dims) ≡ false → ¬ (other ≡ dims) → dims_cmp dims other ≡ Less
strictly dims other h differs = pick (dims_cmp dims other) refl
  where
    pick : (o : Ordering) → dims_cmp dims other ≡ o → o ≡ Less
    pick Less is = refl
    pick Equal is = absurd (differs (sym (dims_cmp-Equal dims other is)))
    pick Greater is = absurd (true≢false (sym (ap is_lt (dims_cmp-total.antisymm other dims ∙ ap ordering_reverse is)) ∙ h))

after_above : (dims r e : Dims) → dims_cmp dims r ≡ Less → is_lt (dims_cmp e r) ≡ false → dims_cmp dims e ≡ Less
after_above dims r e above h = pick (dims_cmp r e) refl
  where
    pick : (o : Ordering) → dims_cmp r e ≡ o → dims_cmp dims e ≡ Less
    pick Less is = dims_cmp-total.trans dims r e above is
    pick Equal is = subst (λ x. dims_cmp dims x ≡ Less) (dims_cmp-Equal r e is) above
    pick Greater is = absurd (true≢false (sym (ap is_lt (dims_cmp-total.antisymm e r ∙ ap ordering_reverse is)) ∙ h))

-- what does not fall below the run, and does not begin with its dimensions, is above it
all_above : (dims : Dims) (rest : List Entry) → AllByRecursion (λ e. is_lt (dims_cmp (dims_in e) dims) ≡ false) rest
    → Differs dims rest → NoneFalls rest → AllByRecursion (IsAbove dims) rest
all_above dims [] h differs falls = tt
all_above dims (r ∷ rest) (first, later) differs (here, falls) =
    let above = strictly dims (dims_in r) first differs in (
      above,
      all_mapped (λ e. is_lt (dims_cmp (dims_in e) (dims_in r)) ≡ false) (IsAbove dims)
          (λ e h. after_above dims (dims_in r) (dims_in e) above h) rest here,
    )

-- a run that has a fact goes from what is left to what was walked over
pub walk_steps : (a : Allowed) (es left run rest : List Entry) (dims : Dims) (cells later : List ToldCell)
    → Walked a es left cells → IsRun dims left run rest → 0 < length run
    → later ≡ with_run a dims run cells → Walked a es rest later
walk_steps a es left [] rest dims cells later h is some told = let no : ⊥ = omega (arith, some) in absurd no
walk_steps a es left (g ∷ run) rest dims cells later h is some told = record {
  before = h.before ++ g ∷ run;
  parts = h.parts ∙ ap (λ xs. h.before ++ xs) is.parts ∙ sym (append_assoc h.before (g ∷ run) rest);
  cells_are = subst (AreCells a (h.before ++ g ∷ run)) (sym told) (grown (nat_lt 1 (length (g ∷ run))) refl);
  below =
      all_more _ h.before (g ∷ run)
      (all_mapped _ _ (λ e b. behind_run _ (g ∷ run) rest (subst (AllByRecursion (λ f. dims_cmp (dims_in e) (dims_in f) ≡ Less)) is.parts b)) h.before h.below)
      (all_mapped (λ e. dims_in e ≡ dims) _ (λ e same. subst (λ ds. AllByRecursion (λ f. dims_cmp ds (dims_in f) ≡ Less) rest) (sym same) above)
      (g ∷ run) is.front);
  rise = falls;
}
  where
    falls_all : NoneFalls (g ∷ (run ++ rest))
    falls_all = subst NoneFalls is.parts h.rise

    falls : NoneFalls rest
    falls = falls_behind (g ∷ run) rest falls_all

    above : AllByRecursion (IsAbove dims) rest
    above =
        all_above dims rest
        (subst (λ ds. AllByRecursion (λ e. is_lt (dims_cmp (dims_in e) ds) ≡ false) rest) is.front.0 (behind_run _ run rest falls_all.0))
        is.others falls

    below : AllByRecursion (IsBelow dims) h.before
    below = all_mapped _ (IsBelow dims) (λ e b. ap (dims_cmp (dims_in e)) (sym is.front.0)
        ∙ (subst (AllByRecursion (λ f. dims_cmp (dims_in e) (dims_in f) ≡ Less)) is.parts b).0) h.before h.below

    grown : (b : Bool) → nat_lt 1 (length (g ∷ run)) ≡ b → AreCells a (h.before ++ g ∷ run) (cond b (cells ++ cell_at a (g ∷ run) dims ∷ []) cells)
    grown true more = one_more_run a h.before (g ∷ run) dims cells h.cells_are below is.front more
    grown false few = same_run a h.before (g ∷ run) dims cells h.cells_are below is.front few

-- ---- the same facts in another order

-- facts of which each cell is what it is of these
pub cells_of_sorted : (a : Allowed) (entries sorted : List Entry) (cells : List ToldCell) → AreInOrder entries sorted → AreCells a sorted cells
    → AreCells a entries cells
cells_of_sorted a entries sorted cells order h = record {
  rise = h.rise;
  each = all_mapped (IsCell a sorted) (IsCell a entries) (λ cell is. record {
    is = is.is ∙ same_cell a cell.dims sorted entries (order.cells cell.dims);
    shared = sym (same_shared cell.dims sorted entries (order.cells cell.dims)) ∙ is.shared;
  }) cells h.each;
  every = λ q shared. h.every q (same_shared q sorted entries (order.cells q) ∙ shared);
}

-- ---- a run at the front

within_at : (n m : ℕ) (b : Bool) → n ≤ m → cond b (suc n) 0 ≤ suc m
within_at n m true h = omega (arith, h)
within_at n m false h = omega arith

pub run_within : (dims : Dims) (es : List Held) → run_length dims (facts_view es) ≤ length es
run_within dims [] = omega arith
run_within dims (e ∷ es) =
    within_at (run_length dims (facts_view es)) (length es) (dims_eq dims (dims_of e)) (run_within dims es)

abbrev front_of : ℕ → List (Held) → List Entry
front_of n es = facts_view (take n es)

abbrev behind : ℕ → List (Held) → List Entry
behind n es = facts_view (drop n es)

is_run_at : (dims : Dims) (e : Held) (es : List Held) (n : ℕ) (b : Bool) → dims_eq dims (dims_of e) ≡ b
    → IsRun dims (facts_view es) (front_of n es) (behind n es)
    → IsRun dims (facts_view (e ∷ es)) (front_of (cond b (suc n) 0) (e ∷ es)) (behind (cond b (suc n) 0) (e ∷ es))
is_run_at dims e es n true is rest = record {
  parts = ap (λ xs. fact_view e ∷ xs) rest.parts;
  front = (sym (dims_same dims (dims_of e) is), rest.front);
  others = rest.others;
}
is_run_at dims e es n false is rest = record {
  parts = refl;
  front = tt;
  others = λ same. true≢false (sym (ap (dims_eq dims) same ∙ dims_eq-refl dims) ∙ is);
}

is_run : (dims : Dims) (es : List Held) → IsRun dims (facts_view es)
    (front_of (run_length dims (facts_view es)) es) (behind (run_length dims (facts_view es)) es)
is_run dims [] = record { parts = refl; front = tt; others = tt }
is_run dims (e ∷ es) = is_run_at dims e es (run_length dims (facts_view es)) (dims_eq dims (dims_of e)) refl (is_run dims es)

pub run_parts : (dims : Dims) (es front back : List Held) (n : ℕ) → n ≡ run_length dims (facts_view es) → front ≡ take n es → back ≡ drop n es
    → IsRun dims (facts_view es) (facts_view front) (facts_view back)
run_parts dims es front back n n_is front_is back_is =
    subst (λ xs. IsRun dims (facts_view es) (facts_view xs) (facts_view back)) (sym (front_is ∙ ap (λ k. take k es) n_is))
    (subst (λ xs. IsRun dims (facts_view es) (front_of (run_length dims (facts_view es)) es) (facts_view xs)) (sym (back_is ∙ ap (λ k. drop k es) n_is))
    (is_run dims es))

-- ---- one fact of it

run_of : (dims : Dims) (e : Held) (es : List Held) (b : Bool) → dims_eq dims (dims_of e) ≡ b
    → run_length dims (facts_view (e ∷ es)) ≡ cond b (suc (run_length dims (facts_view es))) 0
run_of dims e es b is = ap (λ b. cond b (suc (run_length dims (facts_view es))) 0) is

pub run_stops : (dims : Dims) (xs : List Held) (e : Held) (len total all : ℕ) → 1 ≤ length xs → e ≡ get_or xs 0 e → dims_eq dims (dims_of e) ≡ false
    → (len + run_length dims (facts_view xs) ≡ total) × (len + length xs ≡ all) → len ≡ total
run_stops dims xs e len total all some is other h =
    let none : run_length dims (facts_view xs) ≡ 0 =
    ap (λ ys. run_length dims (facts_view ys)) (first_and_rest xs e some is) ∙ run_of dims e (take (length xs - 1) (drop 1 xs)) false other in
    let left = h.0 in omega (arith, none, left)

pub run_goes : (dims : Dims) (xs : List Held) (e : Held) (len total all : ℕ) → 1 ≤ length xs → e ≡ get_or xs 0 e → dims_eq dims (dims_of e) ≡ true
    → (len + run_length dims (facts_view xs) ≡ total) × (len + length xs ≡ all)
    → (len + 1 + run_length dims (facts_view (take (length xs - 1) (drop 1 xs))) ≡ total) × (len + 1 + length (take (length xs - 1) (drop 1 xs)) ≡ all)
run_goes dims xs e len total all some is same h =
    let rest = take (length xs - 1) (drop 1 xs) in
    let one : run_length dims (facts_view xs) ≡ suc (run_length dims (facts_view rest)) =
    ap (λ ys. run_length dims (facts_view ys)) (first_and_rest xs e some is) ∙ run_of dims e rest true same in
    let more : length xs ≡ suc (length rest) = ap length (first_and_rest xs e some is) in
    let left = h.0 in
    let lengths = h.1 in
    (omega (arith, one, left), omega (arith, more, lengths))

-- it has the first
pub some_run : (dims : Dims) (xs : List Held) (e : Held) (run : List Held) → 1 ≤ length xs → e ≡ get_or xs 0 e → dims_of e ≡ dims
    → length run ≡ run_length dims (facts_view xs) → 0 < length (facts_view run)
some_run dims xs e run some is same len =
    let one : run_length dims (facts_view xs) ≡ suc (run_length dims (facts_view (take (length xs - 1) (drop 1 xs)))) =
    ap (λ ys. run_length dims (facts_view ys)) (first_and_rest xs e some is)
    ∙ run_of dims e (take (length xs - 1) (drop 1 xs)) true (ap (dims_eq dims) same ∙ dims_eq-refl dims) in
    let many = length-map run fact_view in
    omega (arith, one, many, len)

-- ---- the cell of a run

pub told_cell : (a : Allowed) (dims own : Dims) (class : Class) (ids : List Text) (may : Bool) (run : List Entry) → HaveDims dims run
    → own ≡ dims → class ≡ class_of (facts_of run) → ids ≡ map (λ e. e.0) run → may ≡ allows a class
    → ◌≡◌ {A = ToldCell} (record { dims = own; class = class; ids = ids; allowed = may }) (cell_at a run dims)
told_cell a dims own class ids may run has own_is class_is ids_are may_is =
    (λ i. record { dims = own_is i; class = class_is i; ids = ids_are i; allowed = (may_is ∙ ap (allows a) class_is) i })
    ∙ ap (told_of a dims) (sym (whole_run dims run has))

-- a list of no length
pub none_left : (xs : List Held) → length xs < 1 → facts_view xs ≡ []
none_left [] h = refl
none_left (x ∷ xs) h = let no : ⊥ = omega (arith, h) in absurd no
