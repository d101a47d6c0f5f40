-- Tallies of facts and of others after them: what is told of all follows from both and from the two first facts.
use Rattle.std.proofs.Common.{◌≡◌, ◌∙◌, ap, sym, refl, subst, ◌↔◌, Bool, true, false, ◌&&◌, ◌++◌, ℤ, List, [], ◌∷◌}
use Rattle.std.specs.List.{list_all}
use Rattle.std.proofs.lemmas.List.Folds.{list_all-append}
use Rattle.filing_model.specs.Oim.Facts.{Fact}
use Rattle.filing_model.specs.Oim.Dimensions.{Dims, dims_eq}
use Rattle.filing_model.specs.Oim.Duplicates.{has_dims, class_of}
use Rattle.filing_model.specs.declared.duplicates.Class.{Class}
use Rattle.filing_model.proofs.Oim.DimensionSets.{dims_decides, dims_eq-refl}
use Rattle.oim_fact.specs.declared.tally.Tally.{Tally}
use Rattle.oim_fact.specs.Tallies.{Describes, IsCommonPart, IsInAll, IsTallyOf, has_value_of, is_empty}
use Rattle.oim_fact.proofs.ValuePairs.{complete_as_the_other}

-- ---- a test of each against the first, which holds of the first of others

swapped : (a b c : Bool) → (c ≡ true → b ≡ a) → (a && c) ≡ (c && b)
swapped true b true e = sym (e refl)
swapped false b true e = sym (e refl)
swapped true b false e = refl
swapped false b false e = refl

module _ {A : Type 0} (test : A → A → Bool) (alike : (f g h : A) → test f g ≡ true → test f h ≡ test g h) where
  all_alike : (f g : A) (xs : List A) → test f g ≡ true → list_all (test f) xs ≡ list_all (test g) xs
  all_alike f g [] e = refl
  all_alike f g (x ∷ xs) e = λ i. alike f g x e i && all_alike f g xs e i

  pub all_joined : (f g : A) (xs ys : List A)
      → (list_all (test f) xs && (list_all (test g) ys && test f g)) ≡ list_all (test f) (xs ++ g ∷ ys)
  all_joined f g xs ys =
      ap (λ b. list_all (test f) xs && b)
      (swapped (list_all (test g) ys) (list_all (test f) ys) (test f g) (all_alike f g ys))
      ∙ sym (list_all-append (test f) xs (g ∷ ys))

dims_alike : (f g h : Fact) → has_dims f.dims g ≡ true → has_dims f.dims h ≡ has_dims g.dims h
dims_alike f g h e = ap (λ ds. has_dims ds h) ((dims_decides f.dims g.dims).0 e)

values_alike : (f g h : Fact) → has_value_of f g ≡ true → has_value_of f h ≡ has_value_of g h
values_alike f g h e = complete_as_the_other f.value g.value h.value e

-- ---- numbers in all

in_both : (xs ys : List Fact) (x : ℤ) → IsInAll (xs ++ ys) x ↔ (IsInAll xs x × IsInAll ys x)
in_both [] ys x = (λ there. (tt, there), λ (_, there). there)
in_both (f ∷ xs) ys x =
    let later = in_both xs ys x in (
      λ (here, rest). let both = later.0 rest in ((here, both.0), both.1),
      λ ((here, rest), there). (here, later.1 (rest, there)),
    )

not_empty : {A : Type 0} (xs : List A) (y : A) (ys : List A) → is_empty (xs ++ y ∷ ys) ≡ false
not_empty [] y ys = refl
not_empty (x ∷ xs) y ys = refl

pub joined : (old other new : Tally) (first other_first : Fact) (others more : List Fact) → new.alone ≡ false
    → new.together ≡ (old.together && (other.together && has_dims first.dims other_first))
    → new.complete ≡ (old.complete && (other.complete && has_value_of first other_first))
    → IsCommonPart old.shared other.shared new.shared → Describes old first others → Describes other other_first more
    → Describes new first (others ++ other_first ∷ more)
joined old other new first other_first others more several together complete part told told_more = record {
  alone = several ∙ sym (not_empty others other_first more);
  together = together ∙ (λ i. told.together i && (told_more.together i && has_dims first.dims other_first))
      ∙ all_joined (λ f g. has_dims f.dims g) dims_alike first other_first others more;
  complete = complete ∙ (λ i. told.complete i && (told_more.complete i && has_value_of first other_first))
      ∙ all_joined has_value_of values_alike first other_first others more;
  filled = part.filled;
  shared = λ x.
      let all = in_both (first ∷ others) (other_first ∷ more) x in (
        λ here. let both = (part.numbers x).0 here in all.1 ((told.shared x).0 both.0, (told_more.shared x).0 both.1),
        λ numbers. let both = all.0 numbers in (part.numbers x).1 ((told.shared x).1 both.0, (told_more.shared x).1 both.1),
      );
}

-- ---- a first fact and a tally

pub alone_told : (first fact : Fact) (tally : Tally) → first ≡ fact → Describes tally first [] → IsTallyOf (first, tally) (fact ∷ [])
alone_told first fact tally e told = ([], ap (λ f. f ∷ []) (sym e), told)

-- the first fact as the tally was given it is the first one
pub told_with_one : (first given fact : Fact) (old new : Tally) (facts : List Fact) → given ≡ first
    → ((others : List Fact) → Describes old given others → Describes new given (others ++ fact ∷ []))
    → IsTallyOf (first, old) facts → IsTallyOf (first, new) (facts ++ fact ∷ [])
told_with_one first given fact old new facts same grown (others, is, told) = (
  others ++ fact ∷ [],
  ap (λ fs. fs ++ fact ∷ []) is,
  subst (λ (f : Fact). Describes new f (others ++ fact ∷ [])) same
      (grown others (subst (λ (f : Fact). Describes old f others) (sym same) told)),
)

pub told_with_all : (first given other_first other_given : Fact) (old other new : Tally) (facts more : List Fact)
    → given ≡ first → other_given ≡ other_first
    → ((others later : List Fact) → Describes old given others → Describes other other_given later
    → Describes new given (others ++ other_given ∷ later))
    → IsTallyOf (first, old) facts → IsTallyOf (other_first, other) more → IsTallyOf (first, new) (facts ++ more)
told_with_all first given other_first other_given old other new facts more same other_same grown (others, is, told) (later, are, told_more) = (
  others ++ other_first ∷ later,
  (λ i. is i ++ are i),
  subst (λ (f : Fact). Describes new f (others ++ other_first ∷ later)) same
      (subst (λ (f : Fact). Describes new given (others ++ f ∷ later)) other_same
      (grown others later (subst (λ (f : Fact). Describes old f others) (sym same) told)
      (subst (λ (f : Fact). Describes other f later) (sym other_same) told_more))),
)

pub told_class : (first : Fact) (tally : Tally) (class : Class) (facts : List Fact)
    → ((f : Fact) (others : List Fact) → Describes tally f others → class ≡ class_of (f ∷ others))
    → IsTallyOf (first, tally) facts → class ≡ class_of facts
told_class first tally class facts classed (others, is, told) = classed first others told ∙ ap class_of (sym is)

-- ---- of one cell

pub of_one_cell : (first : Fact) (tally : Tally) (facts : List Fact) → IsTallyOf (first, tally) facts
    → tally.together ≡ list_all (has_dims first.dims) facts
of_one_cell first tally facts (others, is, told) =
    told.together ∙ ap (λ b. b && list_all (has_dims first.dims) others) (sym (dims_eq-refl first.dims))
    ∙ ap (list_all (has_dims first.dims)) (sym is)

-- these are the first one's dimensions, or not
pub of_these : (first : Fact) (tally : Tally) (dims : Dims) (facts : List Fact) → dims_eq dims first.dims ≡ true
    → IsTallyOf (first, tally) facts → tally.together ≡ list_all (has_dims dims) facts
of_these first tally dims facts same told =
    of_one_cell first tally facts told ∙ ap (λ ds. list_all (has_dims ds) facts) (sym ((dims_decides dims first.dims).0 same))

pub of_others : (first : Fact) (tally : Tally) (dims : Dims) (facts : List Fact) → dims_eq dims first.dims ≡ false
    → IsTallyOf (first, tally) facts → false ≡ list_all (has_dims dims) facts
of_others first tally dims facts differ (others, is, told) =
    sym (ap (list_all (has_dims dims)) is ∙ ap (λ b. b && list_all (has_dims dims) others) differ)
