-- Facts (xBRL-JSON 1.0, the fact object; Open Information Model 1.0, simple facts).
use Rattle.std.specs.Prelude.{ℕ, Bool, true, false, cond, ◌&&◌, ◌||◌, nat_lt, ◌==◌, List, length, ℤ, Option, Some, None, Result, Ok, Err, is_some}
use Rattle.std.specs.List.{list_all, list_any, before_first, after_first}
use Rattle.std.specs.Option.{option_map, option_and_then}
use Rattle.filing_model.specs.Common.Text.{Text, text_eq}
use Rattle.filing_model.specs.Common.TextMap.{TextMap, get}
use Rattle.filing_model.specs.Oim.Dimensions.{Dims, concept_of, unit_of, is_core}
use Rattle.filing_model.specs.Oim.Numerals.{number_of}
use Rattle.filing_model.specs.Oim.Intervals.{accuracy_of}
use Rattle.filing_model.specs.declared.faults.FactFault.{FactFault}
use Rattle.filing_model.specs.declared.faults.FactFault.TheVariants.{UnboundPrefix, Misplaced}
use Rattle.filing_model.specs.declared.faults.FactFault.TheVariants as fact_fault
use Rattle.filing_model.specs.declared.faults.NumberFault.{NumberFault}
use Rattle.filing_model.specs.declared.faults.NumberFault.TheVariants.{NotANumber, TooLarge, DecimalsOutOfRange}

-- a fact as it is read: its value is a text or null, and nothing of it was looked up. Links are compact JSON text
pub record RawFact : Type 0 where
  pub dims : Dims
  pub value : Option Text
  pub decimals : Option ℤ
  pub links : Option Text

-- null, a text, or a number: its text as it was read, the number in units, and its decimals, or none where it is exact
pub data FactValue : Type 0 where
  Nil : FactValue
  Written : Text → FactValue
  Number : Text → ℤ → Option ℤ → FactValue

pub record Fact : Type 0 where
  pub dims : Dims
  pub value : FactValue
  pub links : Option Text

-- the numeric concepts, as pairs of a URI and a local name in byte order, none twice
abbrev pub Table : Type 0
Table = List (Text × Text)

-- the prefixes of a report with their URIs, and the numeric table by which its facts are read
pub record Names : Type 0 where
  pub prefixes : TextMap Text
  pub table : Table

-- ---- a raw fact fitted to the names of its report

abbrev pub is_colon : ℕ → Bool
is_colon c = c == 58

-- what stands before and after the first colon, where neither is empty
abbrev pub is_prefixed : Text → Bool
is_prefixed name = nat_lt 0 (length (before_first is_colon name)) && nat_lt 0 (length (after_first is_colon name))

abbrev pub uri_of : TextMap Text → Text → Option Text
uri_of prefixes name = cond (is_prefixed name) (get prefixes (before_first is_colon name)) None

-- the URI to which a name's prefix is bound, and its local name
abbrev pub expanded : TextMap Text → Text → Option (Text × Text)
expanded prefixes name = option_map (λ uri. (uri, after_first is_colon name)) (uri_of prefixes name)

-- each name that is not core has a prefix that is bound
abbrev pub are_bound : TextMap Text → Dims → Bool
are_bound prefixes dims = list_all (λ d. is_core d.0 || is_some (uri_of prefixes d.0)) dims

abbrev pub is_numeric : Table → Text × Text → Bool
is_numeric table concept = list_any (λ row. text_eq concept.0 row.0 && text_eq concept.1 row.1) table

abbrev pub number_fault : NumberFault → FactFault
number_fault NotANumber = fact_fault.NotANumber
number_fault TooLarge = fact_fault.TooLarge
number_fault DecimalsOutOfRange = fact_fault.DecimalsOutOfRange

abbrev pub number_with : Text → Result ℤ NumberFault → Result (Option ℤ) NumberFault → Result FactValue FactFault
number_with text (Err fault) accuracy = Err (number_fault fault)
number_with text (Ok n) (Err fault) = Err (number_fault fault)
number_with text (Ok n) (Ok decimals) = Ok (Number text n decimals)

-- of a numeric concept. Beside null, decimals are dropped and not looked at
abbrev pub numeric_value : Option Text → Option ℤ → Result FactValue FactFault
numeric_value None decimals = Ok Nil
numeric_value (Some text) decimals = number_with text (number_of text) (accuracy_of decimals)

abbrev pub written_value : Option Text → FactValue
written_value None = Nil
written_value (Some text) = Written text

-- a unit, or decimals with a value
abbrev pub is_misplaced : RawFact → Bool
is_misplaced raw = is_some (unit_of raw.dims) || (is_some raw.decimals && is_some raw.value)

abbrev pub value_of : Bool → RawFact → Result FactValue FactFault
value_of true raw = numeric_value raw.value raw.decimals
value_of false raw = cond (is_misplaced raw) (Err Misplaced) (Ok (written_value raw.value))

abbrev pub with_value : RawFact → Result FactValue FactFault → Result Fact FactFault
with_value raw (Err fault) = Err fault
with_value raw (Ok value) = Ok (record { dims = raw.dims; value = value; links = raw.links })

abbrev pub fit_bound : Names → RawFact → Option (Text × Text) → Result Fact FactFault
fit_bound names raw None = Err UnboundPrefix
fit_bound names raw (Some concept) = cond (are_bound names.prefixes raw.dims)
    (with_value raw (value_of (is_numeric names.table concept) raw)) (Err UnboundPrefix)

-- the fact, or the first fault: a prefix that is not bound, a unit or decimals out of place, no number, one too large, decimals out of range
abbrev pub fit_of : Names → RawFact → Result Fact FactFault
fit_of names raw = fit_bound names raw (option_and_then (expanded names.prefixes) (concept_of raw.dims))
