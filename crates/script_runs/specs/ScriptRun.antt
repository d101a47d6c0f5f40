-- What a run over a script leaves, by its result. All of it is the project's own.
use Rattle.std.specs.Prelude.{◌≡◌, ℕ, ◌^◌}
use Rattle.std.specs.declared.result.Result.{Result}
use Rattle.std.specs.declared.result.Result.TheVariants.{Ok, Err}
use Rattle.std.specs.Io.KnownBytes.{IsAtEnd}
use Rattle.filing_model.specs.Oim.Facts.{Table}
use Rattle.filing_model.specs.Histories.History.{History}
use Rattle.filing_model.specs.Common.Text.{Text}
use Rattle.line_io.specs.Devices.{SourceState, SinkState, Gave, Took}
use Rattle.line_io.specs.Run.{Runs}
use Rattle.script_format.specs.Script.{State, start, line_answer, script_output, script_history}
use Rattle.filing_core.specs.States.{CoreState}
use Rattle.line_io.specs.declared.fault.ScriptFault.{ScriptFault}

-- the reply to a line, and what is carried on
abbrev pub IsReply : State → Text → Text → State → Type 0
IsReply before line reply after = line_answer before line ≡ (reply, after)

-- so many reads a run over a script makes at most
abbrev pub most_reads : ℕ
most_reads = 2 ^ 32

-- the source was read to its end, the output of the script that it gave is written and nothing else, and the history is the script's
pub record IsScriptEnded (table : Table) (source source' : SourceState) (sink sink' : SinkState)
    (history : History) : Type 0 where
  pub given : Text
  pub gave : Gave source source' given 1 0
  pub at_end : IsAtEnd source'.rest
  pub took : Took sink sink' (script_output table given) 0
  pub history_is : history ≡ script_history table given

-- a run of so many reads at most ended before the end of the source, and left what any such run leaves after this fault
pub record IsScriptStopped {S : Type 0} (state : S → SourceState) (reads : ℕ) (table : Table) (source source' : S)
    (sink sink' : SinkState) (fault : ScriptFault) : Type 0 where
  pub after : State
  pub runs : Runs {X = Unit {0}} IsReply state reads (Err fault) (start table) after source source' sink sink'

-- a run of so many reads at most, with what took the steps of the script
abbrev pub TakerRuns : {S T : Type 0} → (T → History → Type 0) → (S → SourceState) → ℕ → Table
    → Result T ScriptFault → S → S
    → SinkState → SinkState → Type 0
TakerRuns has_taken state reads table (Ok taker) source source' sink sink' =
    (h : History) × (IsScriptEnded table (state source) (state source') sink sink' h × has_taken taker h)
TakerRuns has_taken state reads table (Err fault) source source' sink sink' =
    IsScriptStopped state reads table source source' sink sink' fault

-- with a core
abbrev pub ScriptRunsWithin : {S : Type 0} → (S → SourceState) → ℕ → Table → Result CoreState ScriptFault → S → S
    → SinkState → SinkState → Type 0
ScriptRunsWithin state reads table (Ok core) source source' sink sink' =
    IsScriptEnded table (state source) (state source') sink sink' core.history
ScriptRunsWithin state reads table (Err fault) source source' sink sink' =
    IsScriptStopped state reads table source source' sink sink' fault

abbrev pub ScriptRuns : {S : Type 0} → (S → SourceState) → Table → Result CoreState ScriptFault → S → S → SinkState
    → SinkState → Type 0
ScriptRuns state = ScriptRunsWithin state most_reads
