use Rattle.std.proofs.Common.{◌≡◌, refl, rules, string_bytes}
use Rattle.std.proofs.lemmas.Result.{IfOk-weaker}
use Rattle.script_runs.proofs.MachineAnswers.{reply_told, export_told, step_told}
use Rattle.script_runs.proofs.run.machine.ScriptMachine.answer_line.Goals as goal

pub returns-in-ReplyNow-clause-answers : goal.returns-in-ReplyNow-clause-answers
returns-in-ReplyNow-clause-answers g c = λ h taken.
    rw c.of_text.ensures
    (reply_told g.T.TakesSteps.has_taken c.args.self.now h _ c.args.line.now c.in_ok-text.field-0 c.in-ReplyNow.text refl c.in_ok-text.ensures
    c.in-ReplyNow.is taken)

pub returns-in-Export-clause-answers : goal.returns-in-Export-clause-answers
returns-in-Export-clause-answers g c =
    let named : c.deref.result.now ≡ string_bytes c.in-Export.name = search rules in
    IfOk-weaker c.answer_export.result _ _
    (λ reply is h taken. export_told g.T.TakesSteps.has_taken c.args.self.now h _ c.args.line.now c.in_ok-text.field-0 c.in_ok-text.ensures
    c.in-Export.name c.deref.result.now (string_bytes reply.text) c.in-Export.is named (is h taken))
    c.answer_export.ensures

pub returns-in-StepDue-clause-answers : goal.returns-in-StepDue-clause-answers
returns-in-StepDue-clause-answers g c =
    let named : c.deref-in-StepDue.result.now ≡ string_bytes c.in-StepDue.name = search rules in
    IfOk-weaker c.take_due.result _ _
    (λ reply is h taken. step_told g.T.TakesSteps.has_taken c.args.self.now h _ c.args.line.now c.in_ok-text.field-0 c.in_ok-text.ensures
    c.in-StepDue.name c.in-StepDue.step c.deref-in-StepDue.result.now (string_bytes reply.text) c.in-StepDue.is named (is h taken))
    c.take_due.ensures.answers
