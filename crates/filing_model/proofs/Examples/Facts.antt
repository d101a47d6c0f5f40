-- Worked examples of raw facts fitted to the names of a report, which binds one prefix and has one numeric concept.
use Rattle.std.specs.Prelude.{◌≡◌, ℤ, pos, neg_ℤ, [], ◌∷◌, Option, Some, None, Result, Ok, Err, codes, refl}
use Rattle.filing_model.specs.Common.Text.{Text}
use Rattle.filing_model.specs.Oim.Dimensions.{Dims}
use Rattle.filing_model.specs.Oim.Facts.{Fact, FactValue, Nil, Number, Names, RawFact, fit_of}
use Rattle.filing_model.specs.declared.faults.FactFault.{FactFault}
use Rattle.filing_model.specs.declared.faults.FactFault.TheVariants.{UnboundPrefix}

abbrev names : Names
names = record { prefixes = record { entries = (codes "ex", codes "http://e.org/t") ∷ []; sorted = tt }; table = (codes "http://e.org/t", codes "Assets") ∷ [] }

-- the dimensions of a fact of this concept alone
abbrev of_concept : Text → Dims
of_concept concept = (codes "concept", Some concept) ∷ []

abbrev raw : Dims → Option Text → Option ℤ → RawFact
raw dims value decimals = record { dims = dims; value = value; decimals = decimals; links = None }

abbrev fact : Dims → FactValue → Fact
fact dims value = record { dims = dims; value = value; links = None }

-- what fitting a fact of this concept alone gives
abbrev fitted : Text → Option Text → Option ℤ → Result Fact FactFault
fitted concept value decimals = fit_of names (raw (of_concept concept) value decimals)

pub a_number_keeps_its_text : fitted (codes "ex:Assets") (Some (codes " +1000.0")) (Some (neg_ℤ (pos 3)))
    ≡ Ok (fact (of_concept (codes "ex:Assets"))
    (Number (codes " +1000.0") (pos 1000000000000000000) (Some (neg_ℤ (pos 3)))))
a_number_keeps_its_text = refl

pub null_drops_its_decimals : fitted (codes "ex:Assets") None (Some (pos 99)) ≡ Ok (fact (of_concept (codes "ex:Assets")) Nil)
null_drops_its_decimals = refl

-- ---- refusals

-- the concept's prefix is looked at before the other names, and all names before the rest
pub the_prefixes_are_looked_at_first : fit_of names
    (raw ((codes "concept", Some (codes "ex:Name")) ∷ (codes "unit", Some (codes "ex:EUR")) ∷ (codes "zz:axis", None)
    ∷ []) (Some (codes "1")) (Some (pos 99))) ≡ Err UnboundPrefix
the_prefixes_are_looked_at_first = refl
