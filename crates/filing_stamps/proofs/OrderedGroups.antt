-- How the groups of two facts of one kind stand to each other.
use Rattle.std.proofs.Common.{◌≡◌, ◌∙◌, sym, refl, Option, Some, Ordering, Less, Equal, Greater}
use Rattle.std.specs.Option.{option_cmp}
use Rattle.std.specs.Ordering.{ordering_then}
use Rattle.filing_model.specs.Common.Text.{Text, text_cmp}
use Rattle.filing_model.specs.Oim.Dimensions.{Dims, dims_cmp, concept_of, period_of}
use Rattle.filing_stamps.specs.declared.stamp.StampKind.TheVariants as kind
use Rattle.filing_stamps.specs.Stamps.{group_of, group_cmp}

then_equal : (o : Ordering) → ordering_then o Equal ≡ o
then_equal Less = refl
then_equal Equal = refl
then_equal Greater = refl

pub cells : (d e : Dims) → dims_cmp d e ≡ group_cmp (group_of kind.Cell d) (group_of kind.Cell e)
cells d e = sym (then_equal (dims_cmp d e))

pub concepts : (x y : Text) (d e : Dims) → Some x ≡ concept_of d → Some y ≡ concept_of e
    → text_cmp x y ≡ group_cmp (group_of kind.AnyPeriod d) (group_of kind.AnyPeriod e)
concepts x y d e p q = sym (then_equal (text_cmp x y)) ∙ (λ i. ordering_then (option_cmp text_cmp (p i) (q i)) Equal)

pub periods : (x y : Text) (s t : Option Text) (d e : Dims) → Some x ≡ concept_of d → Some y ≡ concept_of e
    → s ≡ period_of d → t ≡ period_of e
    → ordering_then (text_cmp x y) (option_cmp text_cmp s t) ≡ group_cmp (group_of kind.OnePeriod d) (group_of kind.OnePeriod e)
periods x y s t d e p q r u = λ i. ordering_then (option_cmp text_cmp (p i) (q i)) (option_cmp text_cmp (r i) (u i))
