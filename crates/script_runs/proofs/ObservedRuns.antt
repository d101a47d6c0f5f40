-- What an observer of a run was shown, and what the machine beside it did.
use Rattle.std.proofs.Common.{subst, sym, ℕ, Result, Ok, Err, OnOk}
use Rattle.filing_model.specs.Common.Text.{Text}
use Rattle.line_io.specs.Conduct.{Conduct, conduct}
use Rattle.line_io.specs.Devices.{SourceState, SinkState}
use Rattle.line_io.specs.Lines.{lines_of, spoken}
use Rattle.line_io.specs.KeptRun.{RepliesKept, RunsKept}
use Rattle.line_io.specs.Run.{Answers, Runs}
use Rattle.line_io.specs.declared.fault.ScriptFault.{ScriptFault}
use Rattle.script_runs.specs.Observed.{IsShown, KeepsSeen, RepliesSeen}
use Rattle.script_runs.specs.declared.run.machine.Observed.{Observed}
use Rattle.script_runs.proofs.RunsWithin.{IsWithin, answers_within}

module _ {M O S : Type 0} (sees : O → Text → Text → O → Type 0) (state : S → SourceState) (reads : ℕ) (before after : Observed M O)
    (source source' : S) (sink sink' : SinkState) where
  -- of a run that was read to its end
  pub shown_all : (replies : M → Text → Text → M → Type 0) (result : Result (Unit {0}) ScriptFault)
      → Runs (RepliesSeen replies sees) state reads result before after source source' sink sink'
      → OnOk result (IsShown state sees source source' sink sink' before.observer after.observer)
  shown_all replies (Ok x) p = record {
    given = p.given;
    gave = p.gave;
    texts = p.texts;
    took = p.took;
    saw = answers_within (λ o. o.observer) (RepliesSeen replies sees) sees (λ m n line text is. is.1)
        (spoken (lines_of p.given)) p.texts before after p.answers;
  }
  shown_all replies (Err fault) p = tt

module _ {M O : Type 0} (C : Conduct M) (sees : O → Text → Text → O → Type 0) where
  -- how a machine beside an observer conducts itself
  abbrev pub beside : Conduct (Observed M O)
  beside = conduct (RepliesSeen C.replies sees) (λ before line after. C.starves before.machine line after.machine) (KeepsSeen C.keeps)
      (λ m. C.may_tell m.machine) (λ m. C.has_failed m.machine)

  pub machine_within : IsWithin (λ o. o.machine) beside C
  machine_within = record {
    replies = λ m n line text is. is.0;
    starves = λ m n line is. is;
    keeps = λ m n is. is.0;
    may_tell = λ m is. is;
    has_failed = λ m is. is;
  }

  seen_kept : (m n : Observed M O) (line text : Text) → RepliesKept beside m line text n → sees m.observer line text n.observer
  seen_kept m n line text k = subst (λ o. sees o line text n.observer) k.keeps.1 k.replies.1

  -- of a run that was kept
  pub shown_kept : {S : Type 0} (state : S → SourceState) (reads : ℕ) (before after : Observed M O) (source source' : S) (sink sink' : SinkState)
      (result : Result (Unit {0}) ScriptFault)
      → RunsKept beside state reads result before after source source' sink sink'
      → OnOk result (IsShown state sees source source' sink sink' before.observer after.observer)
  shown_kept state reads before after source source' sink sink' (Ok x) p = record {
    given = p.run.given;
    gave = p.run.gave;
    texts = p.run.texts;
    took = p.run.took;
    saw = subst (λ o. Answers sees before.observer (spoken (lines_of p.run.given)) p.run.texts o) (sym p.keeps.1)
        (answers_within (λ o. o.observer) (RepliesKept beside) sees seen_kept (spoken (lines_of p.run.given)) p.run.texts before p.reached p.run.answers);
  }
  shown_kept state reads before after source source' sink sink' (Err fault) p = tt
