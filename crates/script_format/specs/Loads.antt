-- A load as its line was read.
use Rattle.std.specs.Prelude.{◌≡◌, Bool, true, false, not, ◌&&◌, codes, Option, None, Some, is_some, if◌then◌else◌, option_and_then, string_bytes}
use Rattle.json.specs.Json as read
use Rattle.json.specs.Find.{at, as_str}
use Rattle.serde_json.specs.Data.{Data}
use Rattle.filing_model.specs.Oim.Facts.{Table}
use Rattle.filing_model.specs.Reading.JsonText.{json_of}
use Rattle.filing_model.specs.Common.Text.{Text, text_eq}
use Rattle.filing_model.specs.Common.Try.{Gives}
use Rattle.oim_report.specs.Faults.{report_fault}
use Rattle.script_format.specs.Script.{report_in}
use Rattle.script_format.specs.ScriptLines.{◌>>=◌, Load, line_of}
use Rattle.script_format.specs.declared.line_outcome.Loaded.{Loaded}

-- a report is an object, or the text of one
abbrev pub is_report : read.Json → Bool
is_report read.null = false
is_report (read.boolean b) = false
is_report (read.number s) = false
is_report (read.string s) = true
is_report (read.array js) = false
is_report (read.object ms) = true

-- the name and the report of a load, in the value that was read
abbrev pub load_parts : read.Json → Option (Text × read.Json)
load_parts j = do
  word ← option_and_then as_str (at 0 j)
  name ← option_and_then as_str (at 1 j)
  report ← at 2 j
  if text_eq word (codes "load") && is_report report && not (is_some (at 3 j)) then Some (name, report) else None

-- the line is a load of this name, of whose report the reading answers this
abbrev pub IsLoaded : Table → Text → Loaded → Type 0
IsLoaded table line loaded =
    (r : Data) × (option_and_then line_of (json_of line) ≡ Some (Load (string_bytes loaded.name) r))
    × Gives report_fault (λ report. report) loaded.report (report_in table r)
