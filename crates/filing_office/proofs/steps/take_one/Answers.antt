use Rattle.std.proofs.Common.{subst}
use Rattle.filing_office.specs.Runs.{IsLearnt}
use Rattle.filing_office.proofs.Learning.{learnt_before}
use Rattle.filing_office.proofs.steps.take_one.Goals as goal

pub returns-clause-learnt : goal.returns-clause-learnt
returns-clause-learnt g c =
    learnt_before c.take-outcome.new.self c.args.outcomes.now.items c.push_reserved.new.self.items c.take-outcome.result
    (subst (λ os. IsLearnt c.take-outcome.new.self os) c.as_slice.ensures.value c.take-outcome.ensures.learnt) c.push_reserved.ensures.items
