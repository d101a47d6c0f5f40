-- A report obeys its allowed duplicates exactly where each of its cells is allowed, and what the least disallowed cell is.
use Rattle.std.proofs.Common.{◌≡◌, ◌∙◌, ap, sym, refl, subst, Bool, true, false, cond, not, ◌↔◌, ◌&&◌, ◌||◌, List}
use Rattle.std.proofs.Common.{[], ◌∷◌, map, filter, find, fold, Some, None, option_map, Ordering, Less, Equal}
use Rattle.std.proofs.Common.{Greater, is_lt, is_gt, true≢false}
use Rattle.std.specs.List.{list_all, list_any}
use Rattle.std.specs.Ordering.{ord_min, ordering_reverse}
use Rattle.std.specs.Cmp.{IsTotalOrder}
use Rattle.std.proofs.lemmas.Bool.{or_parts, not-true}
use Rattle.std.proofs.lemmas.Cmp.{upto, tied_itself}
use Rattle.std.proofs.lemmas.Option.{same_Some}
use Rattle.filing_model.specs.Common.Text.{Text}
use Rattle.filing_model.specs.Oim.Dimensions.{Dims, dims_cmp, dims_eq}
use Rattle.filing_model.specs.Oim.Facts.{Fact}
use Rattle.filing_model.specs.Oim.Reports.{Report}
use Rattle.filing_model.specs.Oim.Duplicates.{pair_of, class_of, every_pair, allows, permits, facts_of, has_dims, cell_of, is_disallowed, disallowed_dims, lesser_dims, least_dims}
use Rattle.filing_model.specs.Sessions.Sessions.{report_obeys, disallowed_cell}
use Rattle.filing_model.specs.declared.duplicates.Allowed.{Allowed}
use Rattle.filing_laws.specs.Updating.Obeying.{is_allowed, ObeysWhereEachCellIsAllowed, LeastDisallowedIsTheLeast, RepositoryObeysWhereNotRefused}
use Rattle.filing_laws.proofs.Lists.EachElement.{Each}
use Rattle.filing_model.proofs.Oim.EveryPair.{pairs_filter}
use Rattle.filing_model.proofs.Oim.DimensionSets.{dims_same, dims_cmp-total}
use Rattle.filing_model.proofs.Oim.AllowedClasses.{empty_is_allowed}
use Rattle.filing_model.proofs.Oim.DisallowedCells.{allows-cell, permitted_by_cells}

-- ---- cells

-- whether every two facts are a pair that is permitted
abbrev pub are_permitted : Allowed → List Fact → Bool
are_permitted a facts = every_pair (λ f g. permits a (pair_of f g)) facts

abbrev pub facts_at : Dims → List Fact → List Fact
facts_at dims facts = filter (has_dims dims) facts

-- ---- the cells of a report, by its entries

pub facts-cell_of : (dims : Dims) (entries : List (Text × Fact)) → facts_of (cell_of dims entries) ≡ facts_at dims (facts_of entries)
facts-cell_of dims [] = refl
facts-cell_of dims (e ∷ es) = by (facts-cell_of dims es) (has_dims dims e.1)
  where
    by : facts_of (cell_of dims es) ≡ facts_at dims (facts_of es) → (b : Bool)
        → facts_of (cond b (e ∷ cell_of dims es) (cell_of dims es)) ≡ cond b (e.1 ∷ facts_at dims (facts_of es)) (facts_at dims (facts_of es))
    by rest true = ap (λ fs. e.1 ∷ fs) rest
    by rest false = rest

pub cell_is_permitted : (a : Allowed) (entries : List (Text × Fact)) (dims : Dims) → is_allowed a entries dims ≡ are_permitted a (facts_at dims (facts_of entries))
cell_is_permitted a entries dims = ap (λ fs. allows a (class_of fs)) (facts-cell_of dims entries) ∙ allows-cell a dims (facts_of entries)

pub obeys_where_each_cell_is_allowed : ObeysWhereEachCellIsAllowed
obeys_where_each_cell_is_allowed a entries = (
  λ obeys dims. cell_is_permitted a entries dims ∙ pairs_filter (λ f g. permits a (pair_of f g)) (has_dims dims) (facts_of entries) obeys,
  λ each. permitted_by_cells a (facts_of entries) (λ dims. sym (cell_is_permitted a entries dims) ∙ each dims),
)

-- ---- the disallowed cells

-- whether a dimension set is one of these
abbrev pub has_these : Dims → List Dims → Bool
has_these dims ds = list_any (dims_eq dims) ds

no_facts_at : (dims : Dims) (facts : List Fact) → has_these dims (map (λ f. f.dims) facts) ≡ false → facts_at dims facts ≡ []
no_facts_at dims [] none = refl
no_facts_at dims (f ∷ fs) none =
    let parts = or_parts (has_dims dims f) (has_these dims (map (λ f. f.dims) fs)) none in
    ap (λ b. cond b (f ∷ facts_at dims fs) (facts_at dims fs)) parts.0 ∙ no_facts_at dims fs parts.1

-- a cell that is disallowed is that of a fact
pub disallowed_is_there : (a : Allowed) (facts : List Fact) (dims : Dims) → is_disallowed a facts dims ≡ true → has_these dims (map (λ f. f.dims) facts) ≡ true
disallowed_is_there a facts dims disallowed = by (has_these dims (map (λ f. f.dims) facts)) refl
  where
    by : (b : Bool) → has_these dims (map (λ f. f.dims) facts) ≡ b → b ≡ true
    by true is = refl
    by false is = absurd (true≢false (sym disallowed ∙ ap (λ fs. not (allows a (class_of fs))) (no_facts_at dims facts is) ∙ ap not (empty_is_allowed a)))

pub passes_each : {A : Type 0} (p : A → Bool) (xs : List A) → Each (λ x. p x ≡ true) (filter p xs)
passes_each p [] = tt
passes_each p (x ∷ xs) = by (p x) refl (passes_each p xs)
  where
    by : (b : Bool) → p x ≡ b → Each (λ x. p x ≡ true) (filter p xs) → Each (λ x. p x ≡ true) (cond b (x ∷ filter p xs) (filter p xs))
    by true is rest = (is, rest)
    by false is rest = rest

pub kept_where_passed : (p : Dims → Bool) (dims : Dims) (ds : List Dims) → p dims ≡ true → has_these dims ds ≡ true → has_these dims (filter p ds) ≡ true
kept_where_passed p dims [] passes there = there
kept_where_passed p dims (d ∷ ds) passes there = by (kept_where_passed p dims ds passes) (dims_eq dims d) refl (p d) refl there
  where
    by : (has_these dims ds ≡ true → has_these dims (filter p ds) ≡ true) → (same : Bool) → dims_eq dims d ≡ same → (b : Bool) → p d ≡ b
        → (same || has_these dims ds) ≡ true → has_these dims (cond b (d ∷ filter p ds) (filter p ds)) ≡ true
    by rest true same true is there = ap (λ b. b || has_these dims (filter p ds)) same
    by rest true same false is there = absurd (true≢false (sym passes ∙ ap p (dims_same dims d same) ∙ is))
    by rest false same true is there = ap (λ b. b || has_these dims (filter p ds)) same ∙ rest there
    by rest false same false is there = rest there

pub disallowed_is_listed : (a : Allowed) (facts : List Fact) (dims : Dims) → is_disallowed a facts dims ≡ true → has_these dims (disallowed_dims a facts) ≡ true
disallowed_is_listed a facts dims disallowed = kept_where_passed (is_disallowed a facts) dims (map (λ f. f.dims) facts) disallowed (disallowed_is_there a facts dims disallowed)

-- the least so far is the least of what came
lesser_fold : (d : Dims) (ds : List Dims) → fold lesser_dims (Some d) ds ≡ Some (fold (ord_min dims_cmp) d ds)
lesser_fold d [] = refl
lesser_fold d (e ∷ ds) = lesser_fold (ord_min dims_cmp d e) ds

pub nothing_least : (ds : List Dims) → least_dims ds ≡ None → ds ≡ []
nothing_least [] none = refl
nothing_least (d ∷ ds) none = let some : Some (fold (ord_min dims_cmp) d ds) ≡ None = sym (lesser_fold d ds) ∙ none in cc

-- by the cell of the facts and by that of the entries
pub entries_allowed : (a : Allowed) (entries : List (Text × Fact)) (dims : Dims) → is_allowed a entries dims ≡ allows a (class_of (facts_at dims (facts_of entries)))
entries_allowed a entries dims = ap (λ fs. allows a (class_of fs)) (facts-cell_of dims entries)

-- ---- the least of them

module _ {A : Type 0} (R : A → A → Ordering) (o : IsTotalOrder R) where
  abbrev IsUpTo : A → A → Type 0
  IsUpTo x y = is_gt (R x y) ≡ false

  reversed : (o : Ordering) → is_gt (ordering_reverse o) ≡ is_lt o
  reversed Less = refl
  reversed Equal = refl
  reversed Greater = refl

  not_greater : (o : Ordering) → is_lt o ≡ true → is_gt o ≡ false
  not_greater Less e = refl
  not_greater Equal e = refl
  not_greater Greater e = absurd (true≢false (sym e))

  -- the lesser of two is up to both
  lesser_up_to : (x y : A) → IsUpTo (ord_min R x y) x × IsUpTo (ord_min R x y) y
  lesser_up_to x y = by (is_lt (R y x)) refl
    where
      by : (b : Bool) → is_lt (R y x) ≡ b → IsUpTo (cond b y x) x × IsUpTo (cond b y x) y
      by true is = (not_greater (R y x) is, ap is_gt (tied_itself o y))
      by false is = (ap is_gt (tied_itself o x), ap is_gt (o.antisymm x y) ∙ reversed (R y x) ∙ is)

  up_to_first : (x : A) (xs : List A) → IsUpTo (fold (ord_min R) x xs) x
  up_to_first x [] = ap is_gt (tied_itself o x)
  up_to_first x (y ∷ ys) = upto o (fold (ord_min R) (ord_min R x y) ys) (ord_min R x y) x (up_to_first (ord_min R x y) ys) (lesser_up_to x y).0

  pub up_to_each : (x : A) (xs : List A) → Each (λ y. IsUpTo (fold (ord_min R) x xs) y) xs
  up_to_each x [] = tt
  up_to_each x (y ∷ ys) = (upto o (fold (ord_min R) (ord_min R x y) ys) (ord_min R x y) y (up_to_first (ord_min R x y) ys) (lesser_up_to x y).1, up_to_each (ord_min R x y) ys)

  lesser_is_one : (P : A → Type 0) (x y : A) → P x → P y → P (ord_min R x y)
  lesser_is_one P x y px py = elim (is_lt (R y x)) as (λ b. P (cond b y x)) [ true ↦ py | false ↦ px ]

  pub least_is_one : (P : A → Type 0) (x : A) (xs : List A) → P x → Each P xs → P (fold (ord_min R) x xs)
  least_is_one P x [] px each = px
  least_is_one P x (y ∷ ys) px each = least_is_one P (ord_min R x y) ys (lesser_is_one P x y px each.0) each.1

pub each_has : (P : Dims → Type 0) (dims : Dims) (ds : List Dims) → Each P ds → has_these dims ds ≡ true → P dims
each_has P dims [] each there = absurd (true≢false (sym there))
each_has P dims (d ∷ ds) each there = by (each_has P dims ds each.1) (dims_eq dims d) refl there
  where
    by : (has_these dims ds ≡ true → P dims) → (b : Bool) → dims_eq dims d ≡ b → (b || has_these dims ds) ≡ true → P dims
    by rest true same there = subst P (sym (dims_same dims d same)) each.0
    by rest false same there = rest there

pub least_of : (P : Dims → Type 0) (ds : List Dims) (dims : Dims) → Each P ds → least_dims ds ≡ Some dims → P dims × Each (λ d. is_gt (dims_cmp dims d) ≡ false) ds
least_of P [] dims each is = let apart : None ≡ Some dims = is in cc
least_of P (d ∷ ds) dims each is =
    let same : fold (ord_min dims_cmp) d ds ≡ dims = same_Some (fold (ord_min dims_cmp) d ds) dims (sym (lesser_fold d ds) ∙ is) in
    subst (λ m. P m × Each (λ d. is_gt (dims_cmp m d) ≡ false) (d ∷ ds)) same
    (least_is_one dims_cmp dims_cmp-total P d ds each.0 each.1, (up_to_first dims_cmp dims_cmp-total d ds, up_to_each dims_cmp dims_cmp-total d ds))

pub least_disallowed_is_the_least : LeastDisallowedIsTheLeast
least_disallowed_is_the_least a entries dims is = record {
  disallowed = entries_allowed a entries dims ∙ not-true (allows a (class_of (facts_at dims facts))) both.0;
  least = λ lesser less. entries_allowed a entries lesser ∙ by lesser less (allows a (class_of (facts_at lesser facts))) refl;
}
  where
    facts : List Fact
    facts = facts_of entries

    both : (is_disallowed a facts dims ≡ true) × Each (λ d. is_gt (dims_cmp dims d) ≡ false) (disallowed_dims a facts)
    both = least_of (λ d. is_disallowed a facts d ≡ true) (disallowed_dims a facts) dims (passes_each (is_disallowed a facts) (map (λ f. f.dims) facts)) is

    by : (lesser : Dims) → dims_cmp lesser dims ≡ Less → (b : Bool) → allows a (class_of (facts_at lesser facts)) ≡ b → b ≡ true
    by lesser less true allowed = refl
    by lesser less false disallowed =
        let up_to = each_has (λ d. is_gt (dims_cmp dims d) ≡ false) lesser (disallowed_dims a facts) both.1 (disallowed_is_listed a facts lesser (ap not disallowed)) in
        absurd (true≢false (ap (λ r. is_gt (ordering_reverse r)) (sym less) ∙ ap is_gt (sym (dims_cmp-total.antisymm dims lesser)) ∙ up_to))

-- ---- repositories

refused_where_some : (entries : List (Text × Report))
    → (list_all (λ e. report_obeys e.1) entries ≡ true) ↔ (option_map (λ e. disallowed_cell e.0 e.1) (find (λ e. not (report_obeys e.1)) entries) ≡ None)
refused_where_some [] = (λ h. refl, λ h. refl)
refused_where_some (e ∷ es) = by (refused_where_some es) (report_obeys e.1)
  where
    by : (list_all (λ (e : Text × Report). report_obeys e.1) es ≡ true) ↔ (option_map (λ (e : Text × Report). disallowed_cell e.0 e.1) (find (λ e. not (report_obeys e.1)) es) ≡ None)
        → (b : Bool) → ((b && list_all (λ (e : Text × Report). report_obeys e.1) es)
        ≡ true) ↔ (option_map (λ (e : Text × Report). disallowed_cell e.0 e.1)
        (cond (not b) (Some e) (find (λ e. not (report_obeys e.1)) es)) ≡ None)
    by rest true = rest
    by rest false = (λ h. absurd (true≢false (sym h)), λ h. let apart : Some (disallowed_cell e.0 e.1) ≡ None = h in cc)

pub repository_obeys_where_not_refused : RepositoryObeysWhereNotRefused
repository_obeys_where_not_refused c = refused_where_some c.reports.entries
