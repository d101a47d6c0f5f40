-- What a machine answers to a line, by the line's outcome.
use Rattle.std.proofs.Common.{◌≡◌, ap, sym, subst, String, string_bytes, Result, Ok, Err, IfOk}
use Rattle.std.specs.Arc.{arc_value}
use Rattle.std.specs.declared.alloc.Global.{Global}
use Rattle.filing_model.specs.Common.Text.{Text}
use Rattle.filing_model.specs.Histories.History.{History}
use Rattle.filing_step.specs.Steps.{step_of}
use Rattle.filing_step.specs.declared.step.Step.{Step}
use Rattle.script_format.specs.LineOutcomes.{IsLineOutcome, outcome_under, outcome_of}
use Rattle.script_format.specs.Script.{Outcome, ReplyNow, answered, export_outcome, line_answer}
use Rattle.script_format.specs.declared.line_outcome.LineOutcome.{LineOutcome}
use Rattle.script_format.specs.declared.line_outcome.LineOutcome.TheVariants as outcome
use Rattle.script_runs.specs.StepsTaken.{carried, AnswersAs}
use Rattle.script_runs.specs.declared.run.machine.Answer.{Answer}
use Rattle.script_runs.specs.declared.run.machine.ScriptMachine.{ScriptMachine}

-- what holds of a text that was written, holds of that of the answer made of it
pub written_as : {E : Type 0} (written : Result (String Global) E) (result : Result Answer E) (P : String Global → Type 0)
    → IfOk written P → IfOk result (λ a. written ≡ Ok a.text) → IfOk result (λ a. P a.text)
written_as written (Ok a) P holds is = subst (λ w. IfOk w P) is holds
written_as written (Err e) P holds is = tt

module _ {T : Type 0} (has_taken : T → History → Type 0) (m : ScriptMachine T) (h : History) where
  -- an outcome that is a reply at once
  pub told_now : (outcome : Outcome) (text : Text) → has_taken m.taker h → outcome ≡ ReplyNow text → AnswersAs has_taken (answered (carried m h) outcome) text m
  told_now outcome text taken is = record { history = h; taken = taken; is = ap (answered (carried m h)) is }

  module _ (n : ScriptMachine T) (line : Text) (j : LineOutcome) (known : IsLineOutcome (arc_value m.table) line j) where
    -- what a line comes to gives its outcome in the state that it meets
    by_outcome : (i : LineOutcome) (reply : Text) → j ≡ i → AnswersAs has_taken (answered (carried m h) (outcome_of (carried m h) i)) reply n
        → AnswersAs has_taken (line_answer (carried m h) line) reply n
    unfolding line_answer
    by_outcome i reply is a =
        subst (λ r. AnswersAs has_taken (answered (carried m h) r) reply n) (sym (known h m.names))
        (subst (λ j. AnswersAs has_taken (answered (carried m h) (outcome_of (carried m h) j)) reply n) (sym is) a)

    pub export_told : (name : String Global) (key reply : Text) → j ≡ outcome.Export name → key ≡ string_bytes name
        → AnswersAs has_taken (answered (carried m h) (export_outcome (carried m h) key)) reply n
        → AnswersAs has_taken (line_answer (carried m h) line) reply n
    export_told name key reply is named a = by_outcome (outcome.Export name) reply is
        (subst (λ k. AnswersAs has_taken (answered (carried m h) (export_outcome (carried m h) k)) reply n) named a)

    pub step_told : (name : String Global) (step : Step) (key reply : Text) → j ≡ outcome.StepDue name step → key ≡ string_bytes name
        → AnswersAs has_taken (answered (carried m h) (outcome_under (carried m h) key (step_of step))) reply n
        → AnswersAs has_taken (line_answer (carried m h) line) reply n
    step_told name step key reply is named a = by_outcome (outcome.StepDue name step) reply is
        (subst (λ k. AnswersAs has_taken (answered (carried m h) (outcome_under (carried m h) k (step_of step))) reply n) named a)

  -- a reply at once leaves the machine as it was, but for its room
  pub reply_told : (n : ScriptMachine T) (line : Text) (j : LineOutcome) (text : String Global) → carried n h ≡ carried m h
      → IsLineOutcome (arc_value m.table) line j → j ≡ outcome.ReplyNow text → has_taken n.taker h
      → AnswersAs has_taken (line_answer (carried m h) line) (string_bytes text) n
  reply_told n line j text same known is taken =
      by_outcome n line j known (outcome.ReplyNow text) (string_bytes text) is
      (record { history = h; taken = taken; is = ap (λ s. (string_bytes text, s)) (sym same) })
