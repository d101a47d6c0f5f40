use Rattle.std.proofs.Common.{subst, length, ◌≤◌, arith}
use Rattle.std.specs.Prelude.{All, take}
use Rattle.std.proofs.lemmas.List.{take_all}
use Rattle.filing_publish.proofs.Beginnings.{prefix_trans}
use Rattle.filing_office.specs.Runs.{IsWithin}
use Rattle.filing_office.proofs.Learning.{prefix_length, all_within_more, one_more_within}
use Rattle.filing_office.proofs.named_desk.learn_all.Goals as goal

pub loop-outcome-preserved : goal.loop-outcome-preserved
loop-outcome-preserved g c =
    let old = c.loop-outcome.reviewer in
    let now = c.learn_one.new.reviewer in
    let more : length old ≤ length now = prefix_length old now c.in_ok-learn_one.ensures.goes_on in (
      prefix_trans c.args.reviewer.now old now c.loop-outcome.invariant.0 c.in_ok-learn_one.ensures.goes_on,
      one_more_within (length now) c.args.outcomes.now c.loop-outcome.outcome-index c.outcome-item.result c.loop-outcome-test.true
          (all_within_more (length old) (length now) (take c.loop-outcome.outcome-index c.args.outcomes.now) more c.loop-outcome.invariant.1)
          (subst (λ o. IsWithin (length now) o) c.outcome-item.is c.in_ok-learn_one.ensures.learnt),
    )

pub returns-clause-learnt : goal.returns-clause-learnt
returns-clause-learnt g c =
    subst (λ os. All (IsWithin (length c.loop-outcome.reviewer)) os) (take_all c.loop-outcome.outcome-index c.args.outcomes.now (omega (arith, c.loop-outcome-test.false)))
    c.loop-outcome.invariant.1
