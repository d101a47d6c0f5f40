-- The script that loads reports is read to its end, and its lines mean these loads.
use Rattle.std.proofs.Common.{◌≡◌, ◌∙◌, ◌++◌, refl, sym, ap, subst, append-nil, arith, cond, false, List, ℕ}
use Rattle.std.proofs.Common.{Option, Some, None, Result, Ok, Err, OnOk, IsUtf8, option_and_then}
use Rattle.std.specs.Prelude.{codes}
use Rattle.std.specs.Io.KnownBytes.{Consumes, IsAtEnd}
use Rattle.std.proofs.lemmas.Str.{IsUtf8-append}
use Rattle.json.specs.Print.{escape_byte}
use Rattle.json.proofs.Printed.Utf8.{IsUtf8-are_ascii, IsUtf8-quoted}
use Rattle.serde_json.specs.Read.{read}
use Rattle.serde_json.specs.Data.{Data, array, item, no_items, string}
use Rattle.serde_json.specs.Written.{compact_text}
use Rattle.filing_model.specs.Common.Text.{Text}
use Rattle.filing_model.specs.Oim.Facts.{Table}
use Rattle.filing_model.specs.Histories.History.{History}
use Rattle.filing_model.specs.Reading.JsonText.{json_of}
use Rattle.filing_model.proofs.Reading.JsonTexts.{json_of-Some}
use Rattle.filing_model.proofs.Reading.WrittenValues.{read_written}
use Rattle.line_io.specs.Devices.{Gave, SinkState, SourceState, Took, new_sink, new_source}
use Rattle.line_io.specs.Lines.{lines_of}
use Rattle.journal_marks.specs.Standing.{device_of}
use Rattle.script_format.specs.ScriptLines.{Load, line_of}
use Rattle.filing_core.specs.Engines.{EngineState}
use Rattle.script_runs.specs.Resumed.{history_on, output_on}
use Rattle.script_runs.specs.JournaledRun.{IsKeptWhole, JournalsScript, TookFront}
use Rattle.script_runs.specs.declared.run.with_journal.JournaledRun.{JournaledRun}
use Rattle.filing.specs.Loads.{AreLoaded, LoadsAndKeeps, MeansLoad, load_line, load_script}
use Rattle.filing.specs.Runs.{Over}
use Rattle.filing.specs.declared.commands.load.NamedText.{NamedText}

-- ---- what a line means

-- the array that the line is
abbrev load_value : Text → Text → Data
load_value name text = array (item (string (codes "load")) (item (string name) (item (string text) no_items)))

line_is : (name text : Text) → compact_text (load_value name text) ≡ load_line name text
unfolding escape_byte
line_is name text = refl

means : (name text : Text) → line_of (load_value name text) ≡ Some (Load name (string text))
unfolding line_of
means name text = refl

line_utf8 : (name text : Text) → IsUtf8 name → IsUtf8 text → IsUtf8 (load_line name text)
line_utf8 name text named told =
    IsUtf8-append _ _ (IsUtf8-are_ascii (codes "[\"load\",") refl) (IsUtf8-append _ _ (IsUtf8-quoted name named)
    (IsUtf8-append _ _ (IsUtf8-are_ascii (codes ",") refl) (IsUtf8-append _ _ (IsUtf8-quoted text told) (IsUtf8-are_ascii (codes "]") refl))))

-- the line of UTF-8 means the load of just this name and this text
pub line_means : (name text : Text) → IsUtf8 name → IsUtf8 text → MeansLoad name text
line_means name text named told =
    let utf8 = line_utf8 name text named told in
    let value = load_value name text in
    let is_read = read_written value (record { numbers = (tt, (tt, (tt, tt))); back = refl }) (omega arith) in
    let line_read = ap read (sym (line_is name text)) ∙ is_read in
    ap (option_and_then line_of) (json_of-Some (load_line name text) value (utf8, line_read)) ∙ means name text

-- what holds in any case holds where nothing failed
pub on_ok_of : {T E : Type 0} (r : Result T E) (P : Type 0) → P → OnOk r P
on_ok_of (Ok x) P p = p
on_ok_of (Err e) P p = tt

-- ---- what a run of them leaves

-- a reader that was read to its end gave all that it had
all_given : (script : List ℕ) (rest : Option (List ℕ)) (given : List ℕ) → Consumes (Some script) rest given → IsAtEnd rest
    → given ≡ script
all_given script None given gave at_end = absurd gave
all_given script (Some left) given gave at_end = sym (gave ∙ ap (λ l. given ++ l) at_end ∙ append-nil given)

reports_written : {D S : Type 0} (seen : D → List ℕ) (state : S → SourceState) (table : Table) (h : History) (reports : List NamedText)
    (engine : EngineState) (device : D) (source source' : S) (sink sink' : SinkState) (written : Option (List ℕ))
    → state source ≡ new_source (Some (load_script reports)) → sink ≡ new_sink written
    → IsKeptWhole seen state table h engine device source source' sink sink' → AreLoaded seen table h reports engine device (new_sink written) sink'
reports_written seen state table h reports engine device source source' sink sink' written begins begun whole =
    let gave = subst (λ (s : SourceState). Consumes s.rest (state source').rest whole.given) begins whole.gave.bytes in
    let all : whole.given ≡ load_script reports = all_given _ _ _ gave whole.at_end in record {
      after = history_on table h (lines_of whole.given);
      after_is = ap (λ g. history_on table h (lines_of g)) all;
      took =
          subst (λ (s : SinkState). Took s sink' (output_on table h (lines_of (load_script reports))) 0) begun
          (subst (λ g. Took sink sink' (output_on table h (lines_of g)) 0) all whole.took);
      lines = whole.lines;
      engine_is = whole.engine_is;
    }

on_ok_map : {T E P Q : Type 0} (r : Result T E) → (P → Q) → OnOk r P → OnOk r Q
on_ok_map (Ok x) f p = f p
on_ok_map (Err e) f p = tt

pub reports_loaded : {D S T : Type 0} (seen : D → List ℕ) (may_leave : D → List ℕ → Type 0) (moment : D → ℕ)
    (left_since : D → ℕ → List ℕ → Type 0) (state : S → SourceState) (sink_state : T → SinkState) (table : Table) (h : History)
    (reports : List NamedText) (script : List ℕ) (rest written written' : Option (List ℕ))
    (before : D) (run : JournaledRun D) → script ≡ load_script reports
    → Over state sink_state (Some script) rest written written' (JournalsScript seen may_leave moment left_since state table h false before run)
    → LoadsAndKeeps seen may_leave moment left_since table h reports before run written written'
reports_loaded seen may_leave moment left_since state sink_state table h reports script rest written written' before run is kept =
    let begins = kept.begins ∙ ap (λ s. new_source (Some s)) is in
    let j = kept.does.journaled in record {
      source = state kept.source';
      sink = sink_state kept.sink';
      has_written = kept.ended;
      journaled = record {
        given = j.given;
        ended = j.ended;
        unread = j.unread;
        gave = subst (λ (s : SourceState). Gave s (state kept.source') j.given (cond j.ended 1 0) (cond j.unread 1 0)) begins j.gave;
        any_moment = j.any_moment;
        told = j.told;
        later = j.later;
        front = j.front;
        took = subst (λ (s : SinkState). TookFront s (sink_state kept.sink') (output_on table h j.told)) kept.begun j.took;
        kept = j.kept;
      };
      loaded =
          on_ok_map run.ended
          (λ whole. reports_written seen state table h reports run.engine (device_of run.journal) kept.source kept.source'
          (sink_state kept.sink) (sink_state kept.sink') written begins kept.begun whole)
          kept.does.whole;
    }
