-- What a run of the program leaves of its sources and its sinks, by its result.
use Rattle.std.specs.Prelude.{◌≡◌, ◌⊎◌, ℕ, ◌+◌, ◌≤◌, Bool, true, false, List, [], length, reverse, Option, Some, None, Result, Ok, Err, option_map}
use Rattle.std.specs.declared.alloc.Global.{Global}
use Rattle.std.specs.declared.vec.Vec.{Vec}
use Rattle.std.specs.Io.KnownBytes.{Consumes, Appends, IsAtEnd}
use Rattle.filing_model.specs.Common.Text.{Text}
use Rattle.filing_model.specs.Oim.Facts.{Table}
use Rattle.filing_model.specs.Sessions.Repository.{Repository}
use Rattle.filing_model.specs.Histories.History.{History}
use Rattle.line_io.specs.Devices.{SinkState, SourceState, new_sink, new_source}
use Rattle.line_io.specs.Lines.{lines_of, spoken}
use Rattle.line_io.specs.declared.fault.ScriptFault.{ScriptFault}
use Rattle.journal.specs.Device.{Only}
use Rattle.journal.specs.Lines.{recovered}
use Rattle.journal_marks.specs.Standing.{IsKept, device_of, has_stopped}
use Rattle.journal_marks.specs.Standing as standing
use Rattle.journal_marks.specs.declared.marked.MarkedJournal.{MarkedJournal}
use Rattle.history_format.specs.LinesRead.{AreLawful, LinesDepart, entries_on}
use Rattle.filing_core.specs.Engines.{EngineState, IsEngineOf}
use Rattle.filing_core.specs.States.{CoreState}
use Rattle.filing_core.specs.Verdicts.{departure}
use Rattle.filing_core.specs.declared.check.Verdict.{Verdict}
use Rattle.filing_core.specs.declared.check.Verdict.TheVariants.{Departs}
use Rattle.script_runs.specs.HistoryRun.{IsHistoryFollowed, IsHistoryJudged, IsHistoryStopped, verdict_status, verdict_text}
use Rattle.script_runs.specs.Reopened.{AreLinesOf, DepartsAt}
use Rattle.script_runs.specs.Resumed.{GoesOn, IsStoppedOn}
use Rattle.script_runs.specs.ScriptRun.{most_reads}
use Rattle.script_runs.specs.declared.history.reopen.OpenHistoryFault.{OpenHistoryFault}
use Rattle.script_runs.specs.declared.history.reopen.OpenHistoryFault.TheVariants as opening
use Rattle.filing_threads.specs.FoundHistories.{RunsAndWritesOn, ThreadsWriteOn}
use Rattle.filing_threads.specs.declared.fault.ThreadsFault.{ThreadsFault}
use Rattle.history_views.specs.Batches.{Batches}
use Rattle.history_views.specs.Log as log
use Rattle.history_views.specs.Log.{loads_in, sessions_of}
use Rattle.history_views.specs.Versions.{version_asked}
use Rattle.history_views.specs.declared.shown.Shown.{Shown}
use Rattle.history_views.specs.declared.shown.Shown.TheVariants.{Written, NoReport, NoVersion}
use Rattle.session_pictures.specs.Picture.{Shows, picture_in, text_in}
use Rattle.session_pictures.specs.declared.drawing.Drawing.{Drawing}
use Rattle.filing.specs.Faults.{fault_of, threads_fault_of}
use Rattle.filing.specs.declared.fault.Fault.{Fault}
use Rattle.filing.specs.declared.fault.Fault.TheVariants.{HistoryLine, JournalEntry, NoMemory, OtherTable, Write}
use Rattle.filing.specs.Journals.{HasOwnTable, IsOther, RefusesContents, second_line}
use Rattle.filing.specs.declared.runs.opening.Kept.{Kept}

-- ---- readers and writers

-- a source was made of a reader, and a sink of a writer: this was done between them, so much is left of the one, and the other has this
pub record Over {S T : Type 0} (source_state : S → SourceState) (sink_state : T → SinkState)
    (rest rest' written written' : Option (List ℕ)) (done : S → S → SinkState → SinkState → Type 0) : Type 0 where
  pub source : S
  pub source' : S
  pub sink : T
  pub sink' : T
  pub begins : source_state source ≡ new_source rest
  pub ends : rest' ≡ (source_state source').rest
  pub begun : sink_state sink ≡ new_sink written
  pub ended : written' ≡ (sink_state sink').written
  pub does : done source source' (sink_state sink) (sink_state sink')

-- so of a writer alone: this was done to a sink that was made of it, and it has this then
pub record OverWriter {T : Type 0} (state : T → SinkState) (written written' : Option (List ℕ))
    (done : SinkState → SinkState → Type 0) : Type 0 where
  pub sink : T
  pub sink' : T
  pub begins : state sink ≡ new_sink written
  pub ends : written' ≡ (state sink').written
  pub does : done (state sink) (state sink')

-- ---- histories

module _ {S : Type 0} (state : S → SourceState) (table : Table) where
  -- the source was read to its end, and its lines depart at the one of this number, from 1
  abbrev pub DepartsAtLine : S → S → Fault → Type 0
  DepartsAtLine source source' fault =
      (place : ℕ) × ((fault ≡ HistoryLine (place + 1))
      × IsHistoryJudged table (state source) (state source') (Departs place))

  -- no history was read: the lines depart, or the run over them ended early for a cause
  abbrev pub IsNotRead : S → S → Fault → Type 0
  IsNotRead source source' fault =
      DepartsAtLine source source' fault
      ⊎ ((cause : ScriptFault) × ((fault ≡ fault_of cause) × IsHistoryStopped state table source source' cause))

  -- the source was read to its end, and its lines are a lawful history: that of the engine, and the one that was seen
  abbrev pub ReadsHistory : {V : Type 0} → (V → History → Type 0) → EngineState → V → S → S → Type 0
  ReadsHistory sees engine view source source' =
      (h : History) × (IsHistoryFollowed table (state source) (state source') engine h × sees view h)

  -- the lawful history that a source gave to its end; the empty one where there is no source
  abbrev pub BeginsWith : Option S → Option S → History → Type 0
  BeginsWith None None h = h ≡ []
  BeginsWith (Some source) (Some source') h =
      (engine : EngineState) × IsHistoryFollowed table (state source) (state source') engine h
  BeginsWith None (Some source') h = ⊥
  BeginsWith (Some source) None h = ⊥

  -- there is none
  abbrev pub IsNotBegun : Option S → Option S → Fault → Type 0
  IsNotBegun None None fault = fault ≡ NoMemory
  IsNotBegun (Some source) (Some source') fault = IsNotRead source source' fault
  IsNotBegun None (Some source') fault = ⊥
  IsNotBegun (Some source) None fault = ⊥

  -- the engine is that of this history, which was seen
  abbrev pub BeginsOn : {V : Type 0} → (V → History → Type 0) → Option S → Option S → EngineState → V → Type 0
  BeginsOn sees from from' engine view =
      (h : History) × (BeginsWith from from' h × (IsEngineOf h engine × sees view h))

-- ---- scripts

module _ {H S : Type 0} (history : H → SourceState) (state : S → SourceState) (table : Table) where
  -- a script went on from the history that the one source gave to its end, and what took its steps is left;
  -- or there was no such history, and nothing else was done; or the script ended early for a cause
  abbrev pub RunsFrom : {T : Type 0} → (T → History → Type 0) → Option H → Option H → Result T Fault → S → S
      → SinkState → SinkState → Type 0
  RunsFrom has_taken from from' (Ok taker) source source' sink sink' =
      (h : History) × (BeginsWith history table from from' h
      × GoesOn state most_reads table h has_taken taker (Ok tt) source source' sink sink')
  RunsFrom has_taken from from' (Err fault) source source' sink sink' =
      (IsNotBegun history table from from' fault × ((source' ≡ source) × (sink' ≡ sink)))
      ⊎ ((h : History) × (BeginsWith history table from from' h × ((cause : ScriptFault) × ((fault ≡ fault_of cause)
      × IsStoppedOn state most_reads table h source source' sink sink' cause))))

module _ {H : Type 0} (history : H → SourceState) (J : Type 0) (table : Table) (scripts : List (Vec ℕ Global)) where
  -- so of scripts in threads, and of the core that has the whole history
  abbrev pub ThreadsFrom : Option H → Option H → Result CoreState Fault → SinkState → SinkState → Type 0
  ThreadsFrom from from' (Ok core) sink sink' =
      (h : History) × (BeginsWith history table from from' h
      × RunsAndWritesOn J table scripts h core.history (Ok tt) sink sink')
  ThreadsFrom from from' (Err fault) sink sink' =
      (IsNotBegun history table from from' fault × (sink' ≡ sink))
      ⊎ ((h : History) × (BeginsWith history table from from' h
      × ((cause : ThreadsFault) × ((fault ≡ threads_fault_of cause) × ((whole : Option History)
      × ThreadsWriteOn J table scripts h whole (Err cause) sink sink')))))

-- ---- journals

-- by the table, the bytes are the lines of a history, which this is of; or they depart at the line of this number
abbrev pub OpensAs : {T : Type 0} → (T → History → Type 0) → Table → Text → Result T OpenHistoryFault → Type 0
OpensAs is_of table bytes (Ok opened) = (h : History) × (AreLinesOf table bytes h × is_of opened h)
OpensAs is_of table bytes (Err (opening.Departs number)) = DepartsAt table bytes number
OpensAs is_of table bytes (Err opening.NoMemory) = Unit {0}

-- why the file of a journal was not opened: it is no journal, or is damaged; or by its own table its entries depart at the one
-- of this number; or rows of another were given; or what stands behind its lines could not be kept or cut off
abbrev pub RefusesFile : Option (List Text) → List ℕ → Fault → Type 0
RefusesFile given file NoMemory = Unit {0}
RefusesFile given file Write = Unit {0}
RefusesFile given file OtherTable = IsOther given (second_line (recovered file))
RefusesFile given file (JournalEntry number) =
    (table : Table) × (HasOwnTable (recovered file) table × DepartsAt table (standing.kept file) number)
RefusesFile given file fault = RefusesContents file fault

module _ {D : Type 0} (seen : D → List ℕ) (may_leave : D → List ℕ → Type 0) (has_failed : D → Bool) where
  -- a journal is kept and goes on, and has these lines
  pub record GoesOnWith (lines : List ℕ) (journal : MarkedJournal D) : Type 0 where
    pub kept : IsKept seen may_leave has_failed journal
    pub goes_on : has_stopped journal ≡ false
    pub lines_are : recovered (seen (device_of journal)) ≡ lines

  -- and by the table its lines are those of a history, which this is of
  pub record HasOpened (table : Table) (is_of : History → Type 0) (journal : MarkedJournal D) : Type 0 where
    pub kept : IsKept seen may_leave has_failed journal
    pub goes_on : has_stopped journal ≡ false
    pub history : History
    pub is : is_of history
    pub lines : AreLinesOf table (standing.kept (seen (device_of journal))) history

-- what stood after the lines of a journal is the file of another device, and on the disk, where it was more than a gate
abbrev pub KeepsTail : {B : Type 0} → (B → List ℕ) → (B → List ℕ → Type 0) → List ℕ → Option (Kept B) → Type 0
KeepsTail seen may_leave tail None = length tail ≤ 1
KeepsTail seen may_leave tail (Some kept) = (seen kept.device ≡ tail) × Only tail (may_leave kept.device)

-- ---- what is told of histories

-- the reader was read to its end, and the line of the verdict on its lines is what was written and nothing else,
-- as far as the bytes of either are known; the status is that of the verdict
pub record WritesVerdict (table : Table) (rest rest' written written' : Option (List ℕ)) (status : ℕ) : Type 0 where
  pub given : List ℕ
  pub gave : Consumes rest rest' given
  pub at_end : IsAtEnd rest'
  pub verdict : Verdict
  pub departs : LinesDepart table (spoken (lines_of given)) (departure verdict)
  pub took : Appends written written' (verdict_text verdict)
  pub status_is : status ≡ verdict_status verdict

-- of the text that a version may have, where there is that version: it is written and nothing else,
-- as far as the bytes are known; or there is none, or no such version, and nothing is written
abbrev pub IsShown : Option (Option Text) → Option (List ℕ) → Option (List ℕ) → Shown → Type 0
IsShown found written written' Written = (text : Text) × ((found ≡ Some (Some text)) × Appends written written' text)
IsShown found written written' NoReport = (found ≡ Some None) × (written' ≡ written)
IsShown found written written' NoVersion = (found ≡ None) × (written' ≡ written)

-- the reader was read to its end, its lines are a lawful history, and this is what was shown of a text that is found in that history
pub record ShowsFound (table : Table) (found_in : History → Option (Option Text))
    (rest rest' written written' : Option (List ℕ)) (shown : Shown)
    : Type 0 where
  pub given : List ℕ
  pub gave : Consumes rest rest' given
  pub at_end : IsAtEnd rest'
  pub lawful : AreLawful table (spoken (lines_of given))
  pub is_shown : IsShown (found_in (reverse (entries_on table (spoken (lines_of given))))) written written' shown

-- so of a text that the version which is asked for has
abbrev pub ShowsVersion : Table → Option ℕ → (Repository → Option Text) → Option (List ℕ) → Option (List ℕ)
    → Option (List ℕ) → Option (List ℕ) → Shown → Type 0
ShowsVersion table number text_of = ShowsFound table (λ h. option_map text_of (version_asked number h))

-- so of a text that each history has, which is written
abbrev pub AreShown : Table → (History → Text) → Option (List ℕ) → Option (List ℕ)
    → Option (List ℕ) → Option (List ℕ) → Type 0
AreShown table text_of rest rest' written written' =
    ShowsFound table (λ h. Some (Some (text_of h))) rest rest' written written' Written

-- the reader was read to its end, its lines are a lawful history, and a drawing of at most 200 of its sessions,
-- from the one of this number on, and of its loads is written
pub record ShowsPicture (table : Table) (batches : Batches) (first : ℕ) (rest rest' written written' : Option (List ℕ)) : Type 0 where
  pub given : List ℕ
  pub gave : Consumes rest rest' given
  pub at_end : IsAtEnd rest'
  pub lawful : AreLawful table (spoken (lines_of given))
  pub drawing : Drawing
  pub shows : Shows first (sessions_of batches (reverse (entries_on table (spoken (lines_of given)))))
      (loads_in (log.lines_of batches (reverse (entries_on table (spoken (lines_of given)))))) (picture_in drawing)
  pub took : Appends written written' (text_in drawing)
