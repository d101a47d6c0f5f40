use Rattle.filing_step.specs.Steps.{call_of}
use Rattle.embedding.proofs.LoneRuns.{replies_in_turn}
use Rattle.embedding.proofs.lone_session.call_twice.Goals as goal

pub returns : goal.returns
returns c = replies_in_turn (call_of c.args.first) (call_of c.args.second) c.args.session.now.state _ _ _
    c.in_ok-one.ensures.told_so c.in_ok-one.ensures.left_so c.in_ok-two.ensures.told_so
