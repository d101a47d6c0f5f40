use Rattle.std.proofs.Common.{string_bytes}
use Rattle.script_format.specs.Script.{export_outcome}
use Rattle.script_runs.specs.StepsTaken.{Answers}
use Rattle.script_runs.proofs.MachineAnswers.{written_as}
use Rattle.script_runs.proofs.run.machine.ScriptMachine.answer_export.Goals as goal

pub returns : goal.returns
returns g c =
    written_as c.export.result c.of_written.result
    (λ t. Answers g.T.TakesSteps.has_taken (λ state. export_outcome state c.args.name.now) c.args.self.now (string_bytes t) c.args.self.now)
    c.export.ensures c.of_written.ensures
