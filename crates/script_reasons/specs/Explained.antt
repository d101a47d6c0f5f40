-- What the reasons of a refused line are. The project's own.
use Rattle.std.specs.Prelude.{◌≡◌, ℕ, ◌+◌, ◌<◌, ◌≤◌, length, IfSome, None}
use Rattle.filing_model.specs.Common.Text.{Text}
use Rattle.filing_model.specs.Reading.JsonText.{json_of}
use Rattle.script_reasons.specs.ToldFacts.{AreOfFactsIn}
use Rattle.script_reasons.specs.declared.reasons.Reasons.{Reasons}

-- a column of this line, or the one after it, from 1
abbrev pub IsColumnOf : Text → ℕ → Type 0
IsColumnOf line column = (0 < column) × (column ≤ length line + 1)

-- a place at which the reading of this line stopped: a column of it, and it is no JSON
pub record IsStopOf (line : Text) (column : ℕ) : Type 0 where
  pub within : IsColumnOf line column
  pub no_json : json_of line ≡ None

-- some reasons of this line under this number: one at least and 100 at most.
-- They have a column only where its reading stopped, and are of no facts but those in the line
pub record AreReasonsOf (number : ℕ) (line : Text) (r : Reasons) : Type 0 where
  pub same : r.number ≡ number
  pub some : 0 < length r.reasons.items
  pub few : length r.reasons.items ≤ 100
  pub stops : IfSome r.column (IsStopOf line)
  pub facts : AreOfFactsIn line r.reasons.items
