-- What is shown of a version, and what of it is written. All of it is the project's own.
use Rattle.std.specs.Prelude.{◌≡◌, ◌++◌, ◌∷◌, [], Option, Some, None, option_map}
use Rattle.std.specs.declared.result.Result.{Result}
use Rattle.std.specs.declared.result.Result.TheVariants.{Ok, Err}
use Rattle.filing_model.specs.Common.Text.{Text}
use Rattle.filing_model.specs.Oim.Reports.{Report}
use Rattle.filing_model.specs.Sessions.Repository.{Repository, report_at}
use Rattle.line_io.specs.Devices.{SinkState, Took, TookPart}
use Rattle.line_io.specs.declared.fault.ScriptFault.{ScriptFault}
use Rattle.line_io.specs.declared.fault.ScriptFault.TheVariants.{Read, Write, Endless, NoMemory}
use Rattle.script_format.specs.ReplyText.{exported_text}
use Rattle.history_views.specs.declared.shown.Shown.{Shown}
use Rattle.history_views.specs.declared.shown.Shown.TheVariants.{Written, NoReport, NoVersion}

-- a report in a line, as an export replies it
abbrev pub report_line : Report → Text
report_line r = exported_text r ++ 10 ∷ []

-- that of the report of this name, where the version has it
abbrev pub report_shown : Text → Repository → Option Text
report_shown name c = option_map report_line (report_at c name)

-- Of the text that a version may have, where there is that version: it has it, and that is written;
-- or it has none, or there is no such version, and nothing is written.
-- Or a write failed after a front of the text; or memory was refused before the first write
abbrev pub ShowsText : Option (Option Text) → Result Shown ScriptFault → SinkState → SinkState → Type 0
ShowsText found (Ok Written) sink sink' = (text : Text) × ((found ≡ Some (Some text)) × Took sink sink' text 0)
ShowsText found (Ok NoReport) sink sink' = (found ≡ Some None) × (sink' ≡ sink)
ShowsText found (Ok NoVersion) sink sink' = (found ≡ None) × (sink' ≡ sink)
ShowsText found (Err Write) sink sink' = (text : Text) × ((found ≡ Some (Some text)) × TookPart sink sink' text)
ShowsText found (Err (NoMemory number)) sink sink' = (number ≡ 1) × (sink' ≡ sink)
ShowsText found (Err Read) sink sink' = ⊥
ShowsText found (Err Endless) sink sink' = ⊥
