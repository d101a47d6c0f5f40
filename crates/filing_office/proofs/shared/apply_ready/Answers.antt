use Rattle.std.proofs.Common.{sym, subst}
use Rattle.filing_office.specs.Answers.{ApplyAnswers, step_made_ready}
use Rattle.filing_office.specs.declared.ready_step.ReadyStep.{ReadyStep}
use Rattle.filing_office.proofs.shared.apply_ready.Goals as goal

pub returns-in-Load : goal.returns-in-Load
returns-in-Load g c =
    subst (λ (s : ReadyStep). ApplyAnswers c.args.shared.now c.load.new.self c.args.session (step_made_ready s) c.load.result) (sym c.in-Load.is)
    (c.load.ensures c.args.session)
