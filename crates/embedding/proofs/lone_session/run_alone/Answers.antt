use Rattle.std.proofs.Common.{[], ◌∷◌}
use Rattle.std.specs.Arc.{arc_value}
use Rattle.filing_step.specs.Steps.{call_of}
use Rattle.filing_version.specs.StampedReports.{repository_in}
use Rattle.embedding.proofs.LoneRuns.{replies_alone}
use Rattle.embedding.proofs.lone_session.run_alone.Goals as goal

pub returns : goal.returns
returns c = replies_alone (repository_in (arc_value c.args.version)) (call_of c.args.first ∷ call_of c.args.second ∷ [])
    c.in_ok-session.session.state _ c.in_ok-session.ensures c.in_ok-replies.ensures
