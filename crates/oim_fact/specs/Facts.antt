-- What a fact's value means.
use Rattle.std.specs.Prelude.{Result, Ok, Err, string_bytes}
use Rattle.filing_model.specs.Oim.Facts as model
use Rattle.filing_model.specs.declared.faults.FactFault.{FactFault}
use Rattle.oim_value.specs.Accuracies.{decimals_of}
use Rattle.oim_fact.specs.declared.fact.FactValue.{FactValue}
use Rattle.oim_fact.specs.declared.fact.FactValue.TheVariants.{Nil, Text, Number}

abbrev pub value_view : FactValue → model.FactValue
value_view Nil = model.Nil
value_view (Text text) = model.Written (string_bytes text)
value_view (Number text value accuracy) = model.Number (string_bytes text) value (decimals_of accuracy)

-- a value or its fault
abbrev pub value_given : Result FactValue FactFault → Result model.FactValue FactFault
value_given (Ok value) = Ok (value_view value)
value_given (Err fault) = Err fault
