-- A concept and a period whose texts are those of dimensions are theirs.
use Rattle.std.proofs.Common.{◌≡◌, ◌∙◌, ap, sym, subst, refl, true, Option, Some, None, true≢false}
use Rattle.std.specs.Option.{option_eq}
use Rattle.filing_model.specs.Common.Text.{Text, text_eq}
use Rattle.filing_model.specs.Oim.Dimensions.{Dims}
use Rattle.filing_model.proofs.Common.Texts.{text_same}
use Rattle.filing_facts.specs.ConceptPeriods.{ConceptPeriod, keys_of, IsConceptPeriodOf}

pub same_texts : (x y : Option Text) → option_eq text_eq x y ≡ true → x ≡ y
same_texts None None h = refl
same_texts None (Some y) h = absurd (true≢false (sym h))
same_texts (Some x) None h = absurd (true≢false (sym h))
same_texts (Some x) (Some y) h = ap Some (text_same x y h)

-- those that have the concept and the period of these dimensions are theirs
pub same_keys : (dims : Dims) (own other : ConceptPeriod) (concept : Text) (period : Option Text) → other ≡ keys_of concept period
    → concept ≡ own.concept → period ≡ own.period → IsConceptPeriodOf dims own → IsConceptPeriodOf dims other
same_keys dims own other concept period e c p is = subst (IsConceptPeriodOf dims) (sym (e ∙ (λ i. keys_of (c i) (p i)))) is
