-- Reading a fact object (xBRL-JSON 1.0). Its members other than the four are passed over. The order of the faults, and that numbers are whole, are the project's own.
use Rattle.std.specs.Prelude.{ℤ, if◌then◌else◌, List, codes, Option, None, Some, Result, Ok, Err, ok_or, option_and_then}
use Rattle.serde_json.specs.Data.{Data, null, number, object}
use Rattle.serde_json.specs.Find.{get, as_object, as_i64}
use Rattle.serde_json.specs.Written.{has_float, compact_text}
use Rattle.filing_model.specs.Common.Text.{Text}
use Rattle.filing_model.specs.Common.Try.{◌>>=◌, each, map_err}
use Rattle.filing_model.specs.Reading.JsonText.{pairs, as_nullable}
use Rattle.filing_model.specs.Oim.Dimensions.{Dims, dims_of}
use Rattle.filing_model.specs.Oim.Facts.{RawFact}
use Rattle.filing_model.specs.declared.faults.Trouble.{Trouble}
use Rattle.filing_model.specs.declared.faults.Trouble.TheVariants as trouble
use Rattle.filing_model.specs.declared.faults.Trouble.TheVariants.{WrongShape, NotWhole}

-- a dimension's name with its value, a text or null
abbrev pub dim_of : Text × Data → Result (Text × Option Text) Trouble
dim_of member = do
  value ← ok_or (as_nullable member.1) WrongShape
  Ok (member.0, value)

-- the dimensions as they stand in the object
abbrev pub named_dims : Data → Result (List (Text × Option Text)) Trouble
named_dims d = do
  members ← ok_or (option_and_then as_object (get (codes "dimensions") d)) WrongShape
  each dim_of (pairs members)

-- dimensions that stand alone, or the first fault
abbrev pub dims_read : Data → Result Dims Trouble
dims_read d = do
  members ← ok_or (as_object d) WrongShape
  named ← each dim_of (pairs members)
  map_err trouble.Dims (dims_of named)

-- null decimals are the same as none
abbrev pub decimals_of : Option Data → Result (Option ℤ) Trouble
decimals_of None = Ok None
decimals_of (Some null) = Ok None
decimals_of (Some (number n)) = do
  decimals ← ok_or (as_i64 n) NotWhole
  Ok (Some decimals)
decimals_of (Some d) = Err WrongShape

-- links as compact text
abbrev pub links_of : Option Data → Result (Option Text) Trouble
links_of None = Ok None
links_of (Some (object ms)) = if has_float (object ms) then Err NotWhole else Ok (Some (compact_text (object ms)))
links_of (Some d) = Err WrongShape

-- the raw fact that a JSON value is, or the first fault
abbrev pub raw_fact_of : Data → Result RawFact Trouble
raw_fact_of d = do
  named ← named_dims d
  value ← ok_or (option_and_then as_nullable (get (codes "value") d)) WrongShape
  decimals ← decimals_of (get (codes "decimals") d)
  links ← links_of (get (codes "links") d)
  dims ← map_err trouble.Dims (dims_of named)
  Ok (record { dims = dims; value = value; decimals = decimals; links = links })
