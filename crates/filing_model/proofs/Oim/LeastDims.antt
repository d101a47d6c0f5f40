-- The least of some dimensions, whatever their order.
use Rattle.std.proofs.Common.{◌≡◌, ◌∙◌, ap, sym, refl, Bool, true, false, cond, ◌&&◌, ◌||◌, List, [], ◌∷◌, filter}
use Rattle.std.proofs.Common.{fold, Some, Ordering, Less, Equal, Greater, is_lt, true≢false, T}
use Rattle.std.proofs.Common.{subst}
use Rattle.std.specs.List.{list_any}
use Rattle.std.specs.Ordering.{ord_min, ordering_reverse}
use Rattle.std.proofs.lemmas.Bool.{or_parts, or_right}
use Rattle.std.proofs.lemmas.Cmp.{tied_itself}
use Rattle.filing_model.specs.Oim.Dimensions.{Dims, dims_cmp, dims_eq}
use Rattle.filing_model.specs.Oim.Duplicates.{lesser_dims, least_dims}
use Rattle.filing_model.proofs.Oim.DimensionSets.{dims_cmp-total, dims_cmp-Equal, dims_decides, dims_eq-refl}
use Rattle.filing_model.proofs.Common.Tests.{less_from_is_lt}

-- ---- two dimension sets

level : (o : Ordering) → is_lt o ≡ false → is_lt (ordering_reverse o) ≡ false → o ≡ Equal
level Less p q = absurd (true≢false p)
level Equal p q = refl
level Greater p q = absurd (true≢false q)

-- neither is less, so they are one
pub neither_less : (d e : Dims) → is_lt (dims_cmp d e) ≡ false → is_lt (dims_cmp e d) ≡ false → d ≡ e
neither_less d e p q = dims_cmp-Equal d e (level (dims_cmp d e) p (ap is_lt (sym (dims_cmp-total.antisymm e d)) ∙ q))

pub not_less_itself : (d : Dims) → is_lt (dims_cmp d d) ≡ false
not_less_itself d = ap is_lt (tied_itself dims_cmp-total d)

-- what is less than the lesser is less than the other
less_through : (c d e : Dims) → is_lt (dims_cmp c d) ≡ true → is_lt (dims_cmp d e) ≡ true → is_lt (dims_cmp c e) ≡ true
less_through c d e p q = ap is_lt (dims_cmp-total.trans c d e (less_from_is_lt (dims_cmp c d) (subst T (sym p) tt))
    (less_from_is_lt (dims_cmp d e) (subst T (sym q) tt)))

-- ---- the least of a list

-- whether some are less than these
abbrev pub has_lesser : Dims → List Dims → Bool
has_lesser d ds = list_any (λ e. is_lt (dims_cmp e d)) ds

pub least_stays : (d : Dims) (ds : List Dims) → has_lesser d ds ≡ false → fold lesser_dims (Some d) ds ≡ Some d
least_stays d [] none = refl
least_stays d (e ∷ ds) none =
    let parts = or_parts (is_lt (dims_cmp e d)) (has_lesser d ds) none in
    ap (λ b. fold lesser_dims (Some (cond b e d)) ds) parts.0 ∙ least_stays d ds parts.1

lesser_of_two : (d m e : Dims) → is_lt (dims_cmp m d) ≡ false → is_lt (dims_cmp e d) ≡ false → is_lt (dims_cmp (ord_min dims_cmp m e) d) ≡ false
lesser_of_two d m e p q = elim (is_lt (dims_cmp e m)) as (λ b. is_lt (dims_cmp (cond b e m) d) ≡ false) [ true ↦ q | false ↦ p ]

the_lesser : (d m : Dims) → is_lt (dims_cmp m d) ≡ false → ord_min dims_cmp m d ≡ d
the_lesser d m p = elim (is_lt (dims_cmp d m)) as (λ b. is_lt (dims_cmp d m) ≡ b → cond b d m ≡ d) [ true ↦ λ e. refl | false ↦ λ e. neither_less m d p e ] refl

least_comes : (d m : Dims) (ds : List Dims) → is_lt (dims_cmp m d) ≡ false → list_any (dims_eq d) ds ≡ true → has_lesser d ds ≡ false
    → fold lesser_dims (Some m) ds ≡ Some d
least_comes d m [] up there none = absurd (true≢false (sym there))
least_comes d m (e ∷ ds) up there none =
    let parts = or_parts (is_lt (dims_cmp e d)) (has_lesser d ds) none in
    elim (dims_eq d e) as (λ b. dims_eq d e ≡ b → (b || list_any (dims_eq d) ds) ≡ true → fold lesser_dims (Some (ord_min dims_cmp m e)) ds ≡ Some d) [
      | true ↦ λ same _. ap (λ x. fold lesser_dims (Some (ord_min dims_cmp m x)) ds) (sym ((dims_decides d e).0 same))
          ∙ ap (λ x. fold lesser_dims (Some x) ds) (the_lesser d m up) ∙ least_stays d ds parts.1
      | false ↦ λ _ later. least_comes d (ord_min dims_cmp m e) ds (lesser_of_two d m e up parts.0) later parts.1
    ] refl there

-- one of the dimensions, and none is less
pub record IsLeast (d : Dims) (ds : List Dims) : Type 0 where
  pub there : list_any (dims_eq d) ds ≡ true
  pub least : has_lesser d ds ≡ false

pub least_is : (d : Dims) (ds : List Dims) → IsLeast d ds → least_dims ds ≡ Some d
least_is d [] h = absurd (true≢false (sym h.there))
least_is d (e ∷ ds) h =
    ap (λ x. fold lesser_dims (Some x) ds) (sym (the_lesser e e (not_less_itself e)))
    ∙ least_comes d e (e ∷ ds) (or_parts (is_lt (dims_cmp e d)) (has_lesser d ds) h.least).0 h.there h.least

none_lesser : (d e : Dims) (ds : List Dims) → is_lt (dims_cmp d e) ≡ true → has_lesser e ds ≡ false → has_lesser d ds ≡ false
none_lesser d e [] less none = refl
none_lesser d e (x ∷ ds) less none =
    let parts = or_parts (is_lt (dims_cmp x e)) (has_lesser e ds) none in
    elim (is_lt (dims_cmp x d)) as (λ b. is_lt (dims_cmp x d) ≡ b → (b || has_lesser d ds) ≡ false) [
      | true ↦ λ below. absurd (true≢false (sym (less_through x d e below less) ∙ parts.0))
      | false ↦ λ _. none_lesser d e ds less parts.1
    ] refl

any_least : (d : Dims) (ds : List Dims) → (m : Dims) × IsLeast m (d ∷ ds)
any_least d [] = (d, record { there = ap (λ b. b || false) (dims_eq-refl d); least = ap (λ b. b || false) (not_less_itself d) })
any_least d (e ∷ ds) =
    let (m, least) = any_least e ds in
    elim (is_lt (dims_cmp d m)) as (λ b. is_lt (dims_cmp d m) ≡ b → (m : Dims) × IsLeast m (d ∷ e ∷ ds)) [
      | true ↦ λ less. (
        d,
        record {
          there = ap (λ b. b || list_any (dims_eq d) (e ∷ ds)) (dims_eq-refl d);
          least = ap (λ b. b || has_lesser d (e ∷ ds)) (not_less_itself d) ∙ none_lesser d m (e ∷ ds) less least.least;
        },
      )
      | false ↦ λ up. (
        m,
        record {
          there = or_right (dims_eq m d) (list_any (dims_eq m) (e ∷ ds)) least.there;
          least = ap (λ b. b || has_lesser m (e ∷ ds)) up ∙ least.least;
        },
      )
    ] refl

-- lists that no test tells apart have one least element
pub same_least : (ds es : List Dims) → ((test : Dims → Bool) → list_any test ds ≡ list_any test es) → least_dims ds ≡ least_dims es
same_least [] [] same = refl
same_least [] (e ∷ es) same = absurd (true≢false (sym (same (λ _. true))))
same_least (d ∷ ds) es same =
    let (m, least) = any_least d ds in
    least_is m (d ∷ ds) least ∙ sym (least_is m es
    (record { there = sym (same (dims_eq m)) ∙ least.there; least = sym (same (λ e. is_lt (dims_cmp e m))) ∙ least.least }))

pub any_kept : (test kept : Dims → Bool) (ds : List Dims) → list_any test (filter kept ds) ≡ list_any (λ d. kept d && test d) ds
any_kept test kept [] = refl
any_kept test kept (d ∷ ds) = elim (kept d) as
    (λ b. list_any test (cond b (d ∷ filter kept ds) (filter kept ds)) ≡ ((b && test d) || list_any (λ d. kept d && test d) ds)) [
      | true ↦ ap (λ b. test d || b) (any_kept test kept ds)
      | false ↦ any_kept test kept ds
    ]
