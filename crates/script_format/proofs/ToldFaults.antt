-- Facts, dimensions and reports that are refused in reading, as a script is told.
use Rattle.std.proofs.Common.{◌≡◌, ◌∙◌, ap, sym, Option, Some, None, option_map, Result, Err, is_some, unwrap_or, true≢false}
use Rattle.std.specs.Result.{result_map_both}
use Rattle.filing_model.specs.Common.Text.{Text}
use Rattle.filing_model.specs.Oim.Dimensions as dimensions
use Rattle.filing_model.specs.Oim.Facts.{RawFact}
use Rattle.filing_model.specs.Sessions.Calls as call
use Rattle.filing_model.specs.Sessions.Calls.{Call}
use Rattle.filing_model.specs.Common.Faults.{fact_trouble}
use Rattle.filing_model.specs.Common.Try.{Fails}
use Rattle.filing_model.specs.declared.faults.DimFault.TheVariants as dim
use Rattle.filing_model.specs.declared.faults.Trouble.{Trouble}
use Rattle.filing_model.specs.declared.faults.Trouble.TheVariants.{WrongShape, NotWhole, Dims, Fit, NoMemory}
use Rattle.script_format.specs.ReplyText.{bad_fact_text, told_fault}
use Rattle.script_format.specs.Script.{bad_dims_text}

-- what a reading is told as, by these words
abbrev told_as : {A : Type 0} → (A → Call) → (Trouble → Text) → Result A Trouble → Result Call Text
told_as asked words reading = result_map_both asked words reading

refused : {A : Type 0} (asked : A → Call) (words : Trouble → Text) (fault : Option Trouble) (reading : Result A Trouble) (text : Text)
    → Fails fault reading → Some text ≡ option_map words fault → told_as asked words reading ≡ Err text
refused asked words None reading text fails told = absurd (true≢false (ap is_some told))
refused asked words (Some fault) reading text fails told =
    ap (told_as asked words) fails ∙ (λ i. Err (unwrap_or (sym told i) text))

-- the reply to a fault of a reading is what is told of the reading
told_reading : {A : Type 0} (asked : A → Call) (words : Trouble → Text) (fault : Trouble) (reading : Result A Trouble) (text : Text)
    → Fails (fact_trouble fault) reading → Some text ≡ option_map words (told_fault fault) → told_as asked words reading ≡ Err text
told_reading asked words NoMemory reading text fails told = absurd (true≢false (ap is_some told))
told_reading asked words WrongShape reading text fails told = refused asked words (Some WrongShape) reading text fails told
told_reading asked words NotWhole reading text fails told = refused asked words (Some NotWhole) reading text fails told
told_reading asked words (Fit fault) reading text fails told = refused asked words (Some (Fit fault)) reading text fails told
told_reading asked words (Dims dim.NoMemory) reading text fails told = absurd (true≢false (ap is_some told))
told_reading asked words (Dims dim.NameTwice) reading text fails told = refused asked words (Some (Dims dim.NameTwice)) reading text fails told
told_reading asked words (Dims dim.NullCore) reading text fails told = refused asked words (Some (Dims dim.NullCore)) reading text fails told
told_reading asked words (Dims dim.NoConcept) reading text fails told = refused asked words (Some (Dims dim.NoConcept)) reading text fails told
told_reading asked words (Dims dim.TooLong) reading text fails told = refused asked words (Some (Dims dim.TooLong)) reading text fails told

-- so of a fact
pub addition_is_refused : (name id : Text) (fault : Trouble) (reading : Result RawFact Trouble) (text : Text)
    → Fails (fact_trouble fault) reading → Some text ≡ option_map bad_fact_text (told_fault fault)
    → result_map_both (call.Add name id) bad_fact_text reading ≡ Err text
addition_is_refused name id = told_reading (call.Add name id) bad_fact_text

-- and of dimensions
pub cell_is_refused : (name : Text) (fault : Trouble) (reading : Result dimensions.Dims Trouble) (text : Text)
    → Fails (fact_trouble fault) reading → Some text ≡ option_map bad_dims_text (told_fault fault)
    → result_map_both (call.Cell name) bad_dims_text reading ≡ Err text
cell_is_refused name = told_reading (call.Cell name) bad_dims_text
