use Rattle.std.proofs.Common.{◌≡◌, ◌∙◌, ap, sym, subst, refl, [], Option, Some, None}
use Rattle.std.specs.Prelude.{unwrap_or}
use Rattle.filing_model.specs.Common.Text.{Text}
use Rattle.filing_model.specs.Oim.Dimensions.{concept_of, period_of}
use Rattle.filing_facts.specs.Hashes.{hash_of_concept, hash_of_period}
use Rattle.filing_stamps.specs.Stamps.{hash_of_parts, stamp_hash}
use Rattle.filing_stamps.proofs.stamp.StampKind.hash.Goals as goal

of_concept : (o : Option Text) (c : Text) → Some c ≡ o → hash_of_concept (unwrap_or o []) ≡ hash_of_parts None o None
of_concept o c e = subst (λ o. hash_of_concept (unwrap_or o []) ≡ hash_of_parts None o None) e refl

of_period : (o p : Option Text) (c : Text) → Some c ≡ o → hash_of_period (unwrap_or o []) p ≡ hash_of_parts None o (Some p)
of_period o p c e = subst (λ o. hash_of_period (unwrap_or o []) p ≡ hash_of_parts None o (Some p)) e refl

pub returns-in-AnyPeriod : goal.returns-in-AnyPeriod
returns-in-AnyPeriod c =
    c.concept_hash.ensures.hash ∙ of_concept _ _ c.concept_hash.ensures.concept
    ∙ ap (λ fact. hash_of_parts None (concept_of fact.dims) None) c.value-in-AnyPeriod.ensures
    ∙ ap (λ kind. stamp_hash kind c.args.held.now) (sym c.in-AnyPeriod.is)

pub returns-in-OnePeriod : goal.returns-in-OnePeriod
returns-in-OnePeriod c =
    c.period_hash.ensures.hash ∙ of_period _ _ _ c.period_hash.ensures.concept
    ∙ ap (λ fact. hash_of_parts None (concept_of fact.dims) (Some (period_of fact.dims))) c.value-in-OnePeriod.ensures
    ∙ ap (λ kind. stamp_hash kind c.args.held.now) (sym c.in-OnePeriod.is)
