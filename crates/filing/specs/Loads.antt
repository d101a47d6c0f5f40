-- Reports that are loaded from files. All of it is the project's own.
use Rattle.std.specs.Prelude.{◌≡◌, ℕ, false, List, [], ◌∷◌, ◌++◌, Option, Some, option_and_then, codes, string_bytes, OnOk}
use Rattle.std.specs.List.{flat_map}
use Rattle.json.specs.Print.{quoted}
use Rattle.serde_json.specs.Data.{string}
use Rattle.filing_model.specs.Common.Text.{Text}
use Rattle.filing_model.specs.Oim.Facts.{Table}
use Rattle.filing_model.specs.Histories.History.{History}
use Rattle.filing_model.specs.Reading.JsonText.{json_of}
use Rattle.line_io.specs.Devices.{SinkState, SourceState, Took, new_sink, new_source}
use Rattle.line_io.specs.Lines.{lines_of}
use Rattle.script_format.specs.ScriptLines.{Load, line_of}
use Rattle.journal_marks.specs.Standing.{device_of, kept}
use Rattle.history_format.specs.JournalLines.{journal_text}
use Rattle.filing_core.specs.Engines.{EngineState, IsEngineOf}
use Rattle.script_runs.specs.JournaledRun.{IsJournaled}
use Rattle.script_runs.specs.Resumed.{history_on, output_on}
use Rattle.script_runs.specs.declared.run.with_journal.JournaledRun.{JournaledRun}
use Rattle.filing.specs.declared.commands.load.NamedText.{NamedText}

-- the line of a script that loads the text of a report under a name
abbrev pub load_line : Text → Text → Text
load_line name text = codes "[\"load\"," ++ (quoted name ++ (codes "," ++ (quoted text ++ codes "]")))

-- that of a report, with the line feed that ends it
abbrev pub report_line : NamedText → Text
report_line report = load_line (string_bytes report.name) (string_bytes report.text) ++ (10 ∷ [])

-- the script that loads these reports, in their order
abbrev pub load_script : List NamedText → Text
load_script reports = flat_map report_line reports

-- the line means the load of just this name and just this text
abbrev pub MeansLoad : Text → Text → Type 0
MeansLoad name text = option_and_then line_of (json_of (load_line name text)) ≡ Some (Load name (string text))

-- The replies to the script of these reports, from a history on, are what was written and nothing else,
-- as far as the bytes are known. The device has the lines of the history that it makes, which is the engine's.
pub record AreLoaded {D : Type 0} (seen : D → List ℕ) (table : Table) (h : History) (reports : List NamedText)
    (engine : EngineState) (device : D) (sink sink' : SinkState) : Type 0 where
  pub after : History
  pub after_is : after ≡ history_on table h (lines_of (load_script reports))
  pub took : Took sink sink' (output_on table h (lines_of (load_script reports))) 0
  pub lines : kept (seen device) ≡ journal_text after
  pub engine_is : IsEngineOf after engine

-- So after `Ok`. Whatever the result, a crash at any moment leaves, in the device, a first part of what the lines
-- that were read make of the history, and what was told of is there
pub record LoadsAndKeeps {D : Type 0} (seen : D → List ℕ) (may_leave : D → List ℕ → Type 0) (moment : D → ℕ)
    (left_since : D → ℕ → List ℕ → Type 0) (table : Table) (h : History) (reports : List NamedText)
    (before : D) (run : JournaledRun D) (written written' : Option (List ℕ)) : Type 0 where
  pub source : SourceState
  pub sink : SinkState
  pub has_written : written' ≡ sink.written
  pub journaled : IsJournaled moment left_since may_leave (λ (s : SourceState). s) table h false before
      (device_of run.journal) (new_source (Some (load_script reports))) source (new_sink written) sink
  pub loaded : OnOk run.ended
      (AreLoaded seen table h reports run.engine (device_of run.journal) (new_sink written) sink)
