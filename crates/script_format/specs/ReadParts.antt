-- What stands at a place of an array, in the value that was read.
use Rattle.std.specs.Prelude.{ℕ, Bool, ⊤, Option, None, Some, true, false, is_some, if◌then◌else◌, option_and_then}
use Rattle.json.specs.Json.{Json, null, boolean, number, string, array, object}
use Rattle.json.specs.Find.{at, as_number, as_str}
use Rattle.serde_json.specs.Find.{as_u64}
use Rattle.serde_json.specs.Read.{number_of}
use Rattle.filing_model.specs.Common.Text.{Text}
use Rattle.filing_model.specs.Sessions.Calls.{Limit, PeriodFilter, Any, Without, Exactly, limit_of}
use Rattle.script_format.specs.Loads.{is_report}
use Rattle.script_format.specs.ScriptLines.{◌>>=◌}

abbrev pub text_at : ℕ → Json → Option Text
text_at place j = option_and_then as_str (at place j)

abbrev pub ends_at : ℕ → Json → Option ⊤
ends_at place j = if is_some (at place j) then None else Some tt

abbrev pub is_object : Json → Bool
is_object null = false
is_object (boolean b) = false
is_object (number s) = false
is_object (string s) = false
is_object (array js) = false
is_object (object ms) = true

abbrev pub object_at : ℕ → Json → Option Json
object_at place j = do
  part ← at place j
  if is_object part then Some part else None

abbrev pub report_part_at : ℕ → Json → Option Json
report_part_at place j = do
  part ← at place j
  if is_report part then Some part else None

abbrev pub as_nullable : Json → Option (Option Text)
as_nullable null = Some None
as_nullable (boolean b) = None
as_nullable (number s) = None
as_nullable (string s) = Some (Some s)
as_nullable (array js) = None
as_nullable (object ms) = None

abbrev pub nullable_at : ℕ → Json → Option (Option Text)
nullable_at place j = option_and_then as_nullable (at place j)

abbrev pub as_asked : Json → Option PeriodFilter
as_asked null = Some Without
as_asked (boolean true) = Some Any
as_asked (boolean false) = None
as_asked (number s) = None
as_asked (string s) = Some (Exactly s)
as_asked (array js) = None
as_asked (object ms) = None

abbrev pub asked_at : ℕ → Json → Option PeriodFilter
asked_at place j = option_and_then as_asked (at place j)

abbrev pub limit_at : ℕ → Json → Option Limit
limit_at place j = do
  text ← option_and_then as_number (at place j)
  n ← number_of text
  whole ← as_u64 n
  limit_of whole
