-- What a session may ask for. The project's own.
use Rattle.std.specs.Prelude.{ℕ, Bool, true, false, T, ◌&&◌, nat_lt, Option, Some, None}
use Rattle.filing_model.specs.Common.Text.{Text}
use Rattle.filing_model.specs.Oim.Dimensions.{Dims}
use Rattle.filing_model.specs.Oim.Facts.{RawFact}
use Rattle.filing_model.specs.declared.duplicates.Allowed.{Allowed}

-- which period facts have: any or none, none, or this one
pub data PeriodFilter : Type 0 where
  Any : PeriodFilter
  Without : PeriodFilter
  Exactly : Text → PeriodFilter

-- what a page looks for: a concept, a period, and identifiers greater than one where one is given
pub record PageQuery : Type 0 where
  pub concept : Text
  pub period : PeriodFilter
  pub after : Option Text

-- ---- limits

-- from 1 to 1,000
abbrev pub is_limit : ℕ → Bool
is_limit n = nat_lt 0 n && nat_lt n 1001

-- how many identifiers a page has at most
pub record Limit : Type 0 where
  pub number : ℕ
  pub within : T (is_limit number)

-- the limit of a number that was tested
abbrev pub limit_from : (n : ℕ) (passes : Bool) → (T passes → T (is_limit n)) → Option Limit
limit_from n true within = Some (record { number = n; within = within tt })
limit_from n false within = None

-- none where the number is out of range
abbrev pub limit_of : ℕ → Option Limit
limit_of n = limit_from n (is_limit n) (λ t. t)

-- ---- calls

-- each names its report first. An addition and a removal name an identifier, and `Declare` the allowed duplicates that the report is to declare
pub data Call : Type 0 where
  Get : Text → Text → Call
  Cell : Text → Dims → Call
  Page : Text → PageQuery → Limit → Call
  Add : Text → Text → RawFact → Call
  Remove : Text → Text → Call
  Declared : Text → Call
  Declare : Text → Allowed → Call

abbrev pub report_of_call : Call → Text
report_of_call (Get name id) = name
report_of_call (Cell name dims) = name
report_of_call (Page name query limit) = name
report_of_call (Add name id raw) = name
report_of_call (Remove name id) = name
report_of_call (Declared name) = name
report_of_call (Declare name value) = name
