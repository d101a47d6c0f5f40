-- What a tally tells of the facts that it was made of.
use Rattle.std.specs.Prelude.{◌≡◌, ⊤, ℤ, ◌≤ℤ◌, ◌↔◌, Bool, true, false, IfSome, IsSomeAnd, List, [], ◌∷◌, Option, Some, None}
use Rattle.std.specs.List.{list_all}
use Rattle.filing_model.specs.Oim.Facts.{Fact, FactValue, Number}
use Rattle.filing_model.specs.Oim.Intervals.{Interval, interval_of, IsWithin}
use Rattle.filing_model.specs.Oim.Duplicates.{has_dims, is_complete, value_pair}
use Rattle.oim_fact.specs.declared.tally.Tally.{Tally}

-- the interval of a number; null and texts have none
abbrev pub interval_in : FactValue → Option Interval
interval_in (Number text n decimals) = Some (interval_of n decimals)
interval_in value = None

-- a number in an interval, if any
abbrev pub IsIn : Option Interval → ℤ → Type 0
IsIn interval x = IsSomeAnd interval (λ i. IsWithin i x)

-- a number in the interval of every fact
abbrev pub IsInAll : List Fact → ℤ → Type 0
IsInAll [] x = ⊤
IsInAll (f ∷ facts) x = IsIn (interval_in f.value) x × IsInAll facts x

-- some number is in it
abbrev pub IsFilled : Interval → Type 0
IsFilled i = i.low ≤ℤ i.high

-- an interval, not empty, of all numbers that are in both of two, or none where there is no such number
pub record IsCommonPart (one other part : Option Interval) : Type 0 where
  pub filled : IfSome part IsFilled
  pub numbers : (x : ℤ) → IsIn part x ↔ (IsIn one x × IsIn other x)

-- whether a fact's value is the first one's, as a complete pair has it
abbrev pub has_value_of : Fact → Fact → Bool
has_value_of first fact = is_complete (value_pair first.value fact.value)

-- there is no element
abbrev pub is_empty : {A : Type 0} → List A → Bool
is_empty [] = true
is_empty (x ∷ xs) = false

-- what the fields of a tally say of a first fact and the others
pub record Describes (tally : Tally) (first : Fact) (others : List Fact) : Type 0 where
  pub alone : tally.alone ≡ is_empty others
  pub together : tally.together ≡ list_all (has_dims first.dims) others
  pub complete : tally.complete ≡ list_all (has_value_of first) others
  pub filled : IfSome tally.shared IsFilled
  pub shared : (x : ℤ) → IsIn tally.shared x ↔ IsInAll (first ∷ others) x

-- a first fact and a tally that describe these facts together
abbrev pub IsTallyOf : Fact × Tally → List Fact → Type 0
IsTallyOf told facts = (others : List Fact) × (facts ≡ told.0 ∷ others) × Describes told.1 told.0 others
