-- Accuracies as the definitions of numbers and intervals have them.
use Rattle.std.specs.Prelude.{ℕ, ℤ, Option, Some, None, Result, Ok, Err}
use Rattle.oim_value.specs.declared.accuracy.Accuracy.{Accuracy}
use Rattle.oim_value.specs.declared.accuracy.Accuracy.TheVariants.{Exact, To}
use Rattle.filing_model.specs.Oim.Intervals.{half_width}
use Rattle.filing_model.specs.declared.faults.NumberFault.{NumberFault}

-- the decimals of an accuracy, or none where the number is exact
abbrev pub decimals_of : Accuracy → Option ℤ
decimals_of Exact = None
decimals_of (To decimals) = Some decimals

-- an accuracy or its fault, as `accuracy_of` has them
abbrev pub accuracy_view : Result Accuracy NumberFault → Result (Option ℤ) NumberFault
accuracy_view (Ok accuracy) = Ok (decimals_of accuracy)
accuracy_view (Err fault) = Err fault

-- how far an interval reaches to either side of its middle, in half units
abbrev pub half_width_of : Option ℤ → ℕ
half_width_of None = 0
half_width_of (Some d) = half_width d
