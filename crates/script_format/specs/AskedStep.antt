-- The step that a line asks of a session, as the call that it is read as.
use Rattle.std.specs.Prelude.{◌≡◌, ℕ, Option, option_map, Result, String, string_bytes}
use Rattle.std.specs.declared.alloc.Global.{Global}
use Rattle.std.specs.Result.{result_map_both}
use Rattle.serde_json.specs.Data.{Data}
use Rattle.filing_model.specs.Common.Text.{Text}
use Rattle.filing_model.specs.Sessions.Calls.{Call}
use Rattle.filing_model.specs.Histories.History as model
use Rattle.filing_step.specs.Steps.{step_of}
use Rattle.filing_step.specs.declared.step.Step.{Step}
use Rattle.script_format.specs.Script.{call_read}
use Rattle.script_format.specs.ScriptLines.{◌>>=◌, Asking, text_at, asking_at}

-- a step that makes the call that was read, or the reply that refuses its parts
abbrev pub IsAsked : Result Step (String Global) → Result Call Text → Type 0
IsAsked asked reading = result_map_both step_of string_bytes asked ≡ result_map_both model.Ask (λ text. text) reading

-- what is asked by the first text of an array, with its parts from a place on and none after them
abbrev pub asking_in : ℕ → Data → Option Asking
asking_in place d = do
  word ← text_at 0 d
  asking_at word place d

-- a step or a reply where something is asked, and none where nothing is
abbrev pub AreAsked : Option (Result Step (String Global)) → Option Asking → Type 0
AreAsked asked asking =
    option_map (result_map_both step_of string_bytes) asked
    ≡ option_map (λ a. result_map_both model.Ask (λ text. text) (call_read a)) asking
