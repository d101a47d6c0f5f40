-- What is written for a fitted fact fits to the same fact.
use Rattle.std.proofs.Common.{◌≡◌, Bool, true, false, cond, ◌&&◌, ◌||◌, ℤ, Option, None, Some, is_some, Result, Ok, Err, ap, sym, subst, ◌∙◌, refl, option_and_then}
use Rattle.std.proofs.lemmas.Bool.{or_parts}
use Rattle.filing_model.specs.Common.Text.{Text}
use Rattle.filing_model.specs.Oim.Numerals.{number_of}
use Rattle.filing_model.specs.Oim.Intervals.{accuracy_of, are_decimals}
use Rattle.filing_model.specs.Oim.Dimensions.{concept_of, unit_of}
use Rattle.filing_model.specs.Oim.Facts.{RawFact, Fact, FactValue, Nil, Written, Names, fit_of, fit_bound, with_value}
use Rattle.filing_model.specs.Oim.Facts.{value_of, numeric_value, number_with, written_value, number_fault, expanded}
use Rattle.filing_model.specs.Oim.Facts.{are_bound, is_numeric}
use Rattle.filing_model.specs.Reading.Writing.{raw_of, text_of, decimals_in}
use Rattle.filing_model.specs.declared.faults.NumberFault.{NumberFault}
use Rattle.filing_model.specs.declared.faults.NumberFault.TheVariants.{DecimalsOutOfRange}
use Rattle.filing_model.specs.declared.faults.FactFault.{FactFault}
use Rattle.filing_model.specs.declared.faults.FactFault.TheVariants.{UnboundPrefix, Misplaced}
use Rattle.filing_model.proofs.Common.Tests.{same_Ok, no_Err, no_fault, passed_test}

accuracy_again : (decimals d : Option ℤ) → accuracy_of decimals ≡ Ok d → accuracy_of d ≡ Ok d
accuracy_again None d h = subst (λ o. accuracy_of o ≡ Ok o) (same_Ok _ _ h) refl
accuracy_again (Some z) d h =
    let parts = passed_test (are_decimals z) (Ok (Some z)) DecimalsOutOfRange d h in
    subst (λ o. accuracy_of o ≡ Ok o) (same_Ok _ _ parts.1) (ap (λ b. cond b (Ok (Some z)) (Err DecimalsOutOfRange)) parts.0)

number_again : (text : Text) (decimals : Option ℤ) (r : Result ℤ NumberFault) (a : Result (Option ℤ) NumberFault) → number_of text ≡ r
    → accuracy_of decimals ≡ a → (v : FactValue) → number_with text r a ≡ Ok v → numeric_value (text_of v) (decimals_in v) ≡ Ok v
number_again text decimals (Err e) a p q v h = no_Err (number_fault e) v h
number_again text decimals (Ok n) (Err e) p q v h = no_Err (number_fault e) v h
number_again text decimals (Ok n) (Ok d) p q v h = subst (λ w. numeric_value (text_of w) (decimals_in w) ≡ Ok w) (same_Ok _ _ h) (λ i. number_with text (p i) (accuracy_again decimals d q i))

numeric_again : (value : Option Text) (decimals : Option ℤ) (v : FactValue) → numeric_value value decimals ≡ Ok v → numeric_value (text_of v) (decimals_in v) ≡ Ok v
numeric_again None decimals v h = subst (λ w. numeric_value (text_of w) (decimals_in w) ≡ Ok w) (same_Ok _ _ h) refl
numeric_again (Some text) decimals v h = number_again text decimals (number_of text) (accuracy_of decimals) refl refl v h

-- of a concept that is not numeric, beside a unit or not
abbrev placed : Bool → FactValue → Result FactValue FactFault
placed unit v = cond (unit || (is_some (decimals_in v) && is_some (text_of v))) (Err Misplaced) (Ok (written_value (text_of v)))

written_again : (unit : Bool) (value : Option Text) → unit ≡ false → placed unit (written_value value) ≡ Ok (written_value value)
written_again unit None p = ap (λ b. placed b Nil) p
written_again unit (Some text) p = ap (λ b. placed b (Written text)) p

-- the raw fact with the value v in place of its own
abbrev made : RawFact → FactValue → Fact
made raw v = record { dims = raw.dims; value = v; links = raw.links }

value_again : (numeric : Bool) (raw : RawFact) (v : FactValue) → value_of numeric raw ≡ Ok v → value_of numeric (raw_of (made raw v)) ≡ Ok v
value_again true raw v h = numeric_again raw.value raw.decimals v h
value_again false raw v h =
    let parts = no_fault _ Misplaced _ v h in
    let alone = or_parts (is_some (unit_of raw.dims)) _ parts.0 in
    subst (λ w. placed (is_some (unit_of raw.dims)) w ≡ Ok w) (same_Ok _ _ parts.1) (written_again (is_some (unit_of raw.dims)) raw.value alone.0)

made_again : (raw : RawFact) (numeric : Bool) (r : Result FactValue FactFault) (fact : Fact) → value_of numeric raw ≡ r → with_value raw r ≡ Ok fact
    → (v : FactValue) × (made raw v ≡ fact) × (value_of numeric (raw_of (made raw v)) ≡ Ok v)
made_again raw numeric (Err e) fact p h = no_Err e fact h
made_again raw numeric (Ok v) fact p h = (v, same_Ok _ _ h, value_again numeric raw v p)

bound_again : (names : Names) (raw : RawFact) (concept : Option (Text × Text)) (fact : Fact) → fit_bound names raw concept ≡ Ok fact
    → (raw.dims ≡ fact.dims) × (fit_bound names (raw_of fact) concept ≡ Ok fact)
bound_again names raw None fact h = no_Err UnboundPrefix fact h
bound_again names raw (Some concept) fact h =
    let parts = passed_test (are_bound names.prefixes raw.dims) _ UnboundPrefix fact h in
    let numeric = is_numeric names.table concept in
    let is = made_again raw numeric _ fact refl parts.1 in
    subst (λ f. (raw.dims ≡ f.dims) × (fit_bound names (raw_of f) (Some concept) ≡ Ok f)) is.1
    (refl, λ i. cond (parts.0 i) (with_value (raw_of (made raw is.0)) (is.2 i)) (Err UnboundPrefix))

pub fit_again : (names : Names) (raw : RawFact) (fact : Fact) → fit_of names raw ≡ Ok fact → fit_of names (raw_of fact) ≡ Ok fact
fit_again names raw fact h =
    let is = bound_again names raw (option_and_then (expanded names.prefixes) (concept_of raw.dims)) fact h in
    ap (λ dims. fit_bound names (raw_of fact) (option_and_then (expanded names.prefixes) (concept_of dims))) (sym is.0) ∙ is.1
