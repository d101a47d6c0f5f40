-- A run over a script, in terms of the script's output.
use Rattle.std.proofs.Common.{◌≡◌, ◌∙◌, ℕ, ap, ap₂, sym, refl, subst, []}
use Rattle.std.specs.declared.result.Result.{Result}
use Rattle.std.specs.declared.result.Result.TheVariants.{Ok, Err}
use Rattle.std.specs.Arc.{arc_value}
use Rattle.filing_model.specs.Common.Text.{Text}
use Rattle.filing_model.specs.Common.TextMap.{empty}
use Rattle.filing_model.specs.Oim.Facts.{Table}
use Rattle.filing_model.specs.Histories.History.{History}
use Rattle.line_io.specs.Devices.{SourceState, SinkState, Took}
use Rattle.line_io.specs.Lines.{lines_of, spoken, lines_text}
use Rattle.line_io.specs.Run.{Runs}
use Rattle.script_format.specs.Script.{State, line_answer, script_output, script_history}
use Rattle.script_runs.specs.Resumed.{GoesOn, IsStoppedOn, history_on, output_on, resumed}
use Rattle.script_runs.specs.ScriptRun.{IsReply, IsScriptStopped, TakerRuns}
use Rattle.script_runs.specs.StepsTaken.{AnswersLine, carried}
use Rattle.script_runs.specs.declared.run.machine.ScriptMachine.{ScriptMachine}
use Rattle.script_runs.proofs.CarriedRuns.{answers_carried, stops_carried}
use Rattle.line_io.specs.declared.fault.ScriptFault.{ScriptFault}
use Rattle.line_io.specs.declared.fault.ScriptFault.TheVariants.{NoMemory}
use Rattle.line_io.proofs.AnsweringMachines.{answers_of_function}
use Rattle.line_io.proofs.RunByReads.{starved_at_once}

-- a machine that goes on from a history, with no name in use
pub resumed_alike : {T : Type 0} (m : ScriptMachine T) (table : Table) (h : History) → arc_value m.table ≡ table → m.names ≡ empty → carried m h
    ≡ resumed table h
resumed_alike m table h t n = ap₂ (λ t names. record { table = t; history = h; names = names }) t n

module _ {T : Type 0} (has_taken : T → History → Type 0) where
  -- a machine carries the state of a script, by steps that were taken
  abbrev Carries : ScriptMachine T → State → Type 0
  Carries m s = (h : History) × ((s ≡ carried m h) × has_taken m.taker h)

  answers_on : (m n : ScriptMachine T) (line text : Text) (s : State) → AnswersLine has_taken m line text n → Carries m s
      → (t : State) × (IsReply s line text t × Carries n t)
  answers_on m n line text s answers (h, (is, taken)) =
      let a = answers h taken in
      (carried n a.history, ((ap (λ s. line_answer s line) is ∙ a.is), (a.history, (refl, a.taken))))

  module _ (table : Table) (h : History) (before after : ScriptMachine T) (begun : carried before h ≡ resumed table h) (taken : has_taken before.taker h) where
    begins : Carries before (resumed table h)
    begins = (h, (sym begun, taken))

    pub script_goes : {S : Type 0} (state : S → SourceState) (reads : ℕ) (source source' : S) (sink sink' : SinkState) (result : Result (Unit {0}) ScriptFault)
        → Runs (AnswersLine has_taken) state reads result before after source source' sink sink'
        → GoesOn state reads table h has_taken after.taker result source source' sink sink'
    unfolding history_on output_on
    script_goes state reads source source' sink sink' (Ok x) p =
        let lines = spoken (lines_of p.given) in
        let carries = answers_carried (AnswersLine has_taken) IsReply Carries answers_on lines p.texts before after (resumed table h) p.answers begins in
        let told = answers_of_function IsReply (λ (s : State). s) line_answer (λ m n line text h. h) (resumed table h) carries.0 lines p.texts carries.1.0 in
        let at_last = carries.1.1 in (
          at_last.0,
          (
            record {
              given = p.given;
              gave = p.gave;
              at_end = p.at_end;
              took = subst (λ text. Took sink sink' text 0) (ap lines_text told.0) p.took;
              history_is = ap (λ s. s.history) (sym at_last.1.0 ∙ told.1);
            },
            at_last.1.1,
          ),
        )
    script_goes state reads source source' sink sink' (Err fault) p =
        let stopped = stops_carried (AnswersLine has_taken) IsReply Carries answers_on state reads before after source source' sink sink' (resumed table h)
        begins fault p in
        record { after = stopped.0; runs = stopped.1 }

-- memory was refused before the first read
pub stopped_at_once : {S : Type 0} (state : S → SourceState) (reads : ℕ) (table : Table) (h : History) (source : S) (sink : SinkState)
    → IsStoppedOn state reads table h source source sink sink (NoMemory 1)
stopped_at_once state reads table h source sink = record { after = resumed table h; runs = starved_at_once IsReply state (resumed table h) source sink }

pub nothing_begun : {S : Type 0} (state : S → SourceState) (reads : ℕ) (table : Table) (source : S) (sink : SinkState)
    → IsScriptStopped state reads table source source sink sink (NoMemory 1)
nothing_begun state reads table source sink =
    let at_once = stopped_at_once state reads table [] source sink in record { after = at_once.after; runs = at_once.runs }

-- from an empty history on it is the script's own
module _ {T S : Type 0} (has_taken : T → History → Type 0) (state : S → SourceState) (reads : ℕ) (table : Table) (source source' : S)
    (sink sink' : SinkState) where
  pub script_whole : (taker : T) → GoesOn state reads table [] has_taken taker (Ok tt) source source' sink sink'
      → TakerRuns has_taken state reads table (Ok taker) source source' sink sink'
  unfolding script_output script_history history_on output_on
  script_whole taker (after, (ended, taken)) =
      (after, (record { given = ended.given; gave = ended.gave; at_end = ended.at_end; took = ended.took; history_is = ended.history_is }, taken))

  pub script_cut : (fault : ScriptFault) → IsStoppedOn state reads table [] source source' sink sink' fault
      → IsScriptStopped state reads table source source' sink sink' fault
  script_cut fault stopped = record { after = stopped.after; runs = stopped.runs }
