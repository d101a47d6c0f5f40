-- A report obeys an allowed value exactly where each cell that is told may stand.
use Rattle.std.proofs.Common.{◌≡◌, ◌∙◌, ap, sym, refl, Bool, true, false, ◌||◌, nat_lt, true≢false, arith, List, [], ◌∷◌, length}
use Rattle.std.proofs.lemmas.Bool.{and_parts, and_from, lt-ltb}
use Rattle.std.specs.Cmp.{both_ways}
use Rattle.std.specs.List.{AllByRecursion}
use Rattle.filing_model.specs.Common.Text.{Text}
use Rattle.filing_model.specs.Oim.Dimensions.{Dims, dims_eq}
use Rattle.filing_model.specs.Oim.Duplicates.{allows, cell_of, class_of, facts_of, obeys}
use Rattle.filing_model.specs.Oim.Facts.{Fact}
use Rattle.filing_model.specs.declared.duplicates.Allowed.{Allowed}
use Rattle.filing_model.specs.declared.duplicates.Allowed.TheVariants as allowed
use Rattle.filing_model.specs.declared.duplicates.Class.TheVariants as class
use Rattle.filing_model.proofs.Oim.DimensionSets.{dims_same}
use Rattle.filing_laws.proofs.Updating.AllowedCells.{obeys_where_each_cell_is_allowed}
use Rattle.report_inspection.specs.Cells.{AreCells, IsCell, ToldCell, are_allowed, class_at, has_cell, is_shared}

abbrev Entry : Type 0
Entry = Text × Fact

-- none and one may always stand
few_may_stand : (a : Allowed) (es : List Entry) → nat_lt 1 (length es) ≡ false → allows a (class_of (facts_of es)) ≡ true
few_may_stand allowed.Never [] h = refl
few_may_stand allowed.Complete [] h = refl
few_may_stand allowed.Consistent [] h = refl
few_may_stand allowed.All [] h = refl
few_may_stand allowed.Never (e ∷ []) h = refl
few_may_stand allowed.Complete (e ∷ []) h = refl
few_may_stand allowed.Consistent (e ∷ []) h = refl
few_may_stand allowed.All (e ∷ []) h = refl
few_may_stand a (e ∷ f ∷ es) h = let no : nat_lt 1 (length (e ∷ f ∷ es)) ≡ true = lt-ltb 1 (length (e ∷ f ∷ es)) (omega arith) in absurd
    (true≢false (sym no ∙ h))

-- a cell that is told may stand where all may
told_at : (a : Allowed) (es : List Entry) (dims : Dims) (c : ToldCell) (others b : Bool) → IsCell a es c → c.allowed ≡ true → dims_eq dims c.dims ≡ b
    → (others ≡ true → allows a (class_at es dims) ≡ true) → (b || others) ≡ true → allows a (class_at es dims) ≡ true
told_at a es dims c others true cell may is later has =
    ap (λ ds. allows a (class_at es ds)) (dims_same dims c.dims is) ∙ sym (ap (λ cell. cell.allowed) cell.is) ∙ may
told_at a es dims c others false cell may is later has = later has

told_may_stand : (a : Allowed) (es : List Entry) (dims : Dims) (cells : List ToldCell) → AllByRecursion (IsCell a es) cells
    → are_allowed cells ≡ true → has_cell cells dims ≡ true → allows a (class_at es dims) ≡ true
told_may_stand a es dims [] h all has = absurd (true≢false (sym has))
told_may_stand a es dims (c ∷ cells) (first, rest) all has =
    let parts = and_parts c.allowed (are_allowed cells) all in
    told_at a es dims c (has_cell cells dims) (dims_eq dims c.dims) first parts.0 refl (told_may_stand a es dims cells rest parts.1) has

all_stand : (a : Allowed) (es : List Entry) (cells : List ToldCell) → AreCells a es cells → are_allowed cells ≡ true → obeys a es ≡ true
all_stand a es cells h all = (obeys_where_each_cell_is_allowed a es).1 (λ dims. pick dims (is_shared es dims) refl)
  where
    pick : (dims : Dims) (b : Bool) → is_shared es dims ≡ b → allows a (class_at es dims) ≡ true
    pick dims true shared = told_may_stand a es dims cells h.each all (h.every dims shared)
    pick dims false few = few_may_stand a (cell_of dims es) few

each_stands : (a : Allowed) (es : List Entry) → obeys a es ≡ true → (cells : List ToldCell) → AllByRecursion (IsCell a es) cells → are_allowed cells ≡ true
each_stands a es obeyed [] h = refl
each_stands a es obeyed (c ∷ cells) (first, rest) =
    and_from c.allowed (are_allowed cells)
    (ap (λ cell. cell.allowed) first.is ∙ (obeys_where_each_cell_is_allowed a es).0 obeyed c.dims)
    (each_stands a es obeyed cells rest)

pub obeys_where_each_stands : (a : Allowed) (es : List Entry) (cells : List ToldCell) → AreCells a es cells → are_allowed cells ≡ obeys a es
obeys_where_each_stands a es cells h =
    both_ways (are_allowed cells) (obeys a es) (all_stand a es cells h) (λ obeyed. each_stands a es obeyed cells h.each)
