-- What is written of a report that is inspected, and the status.
use Rattle.std.specs.Prelude.{◌≡◌, ℕ, Bool, false, List, Option, if◌then◌else◌}
use Rattle.std.specs.Io.KnownBytes.{Appends}
use Rattle.filing_model.specs.Common.Text.{Text}
use Rattle.filing_model.specs.Oim.Facts.{Table}
use Rattle.report_inspection.specs.Inspections.{IsInspection}
use Rattle.report_inspection.specs.Lines.{inspection_text}
use Rattle.report_inspection.specs.declared.inspection.Inspection.{Inspection}
use Rattle.filing.specs.declared.commands.inspect.Manner.{Manner}

-- the status of a report, by whether a load would be accepted, as if it declared the asked value, if any
abbrev pub inspected_status : Bool → ℕ
inspected_status would_load_as_asked = if would_load_as_asked then 0 else 4

-- a text was written of a report and nothing else, as far as the bytes are known: its lines, unless lines for people are wanted;
-- and the status tells whether a load would be accepted, as if the report declared the asked value, if any
pub record WritesInspection (table : Table) (manner : Manner) (bytes : List ℕ) (file : Text)
    (written written' : Option (List ℕ)) (status : ℕ)
    : Type 0 where
  pub inspection : Inspection
  pub is : IsInspection table manner.asked bytes inspection
  pub text : Text
  pub took : Appends written written' text
  pub lines_are : manner.as_text ≡ false → text ≡ inspection_text file inspection
  pub status_is : status ≡ inspected_status inspection.would_load_as_asked
