use Rattle.std.proofs.lemmas.Result.{on_ok_weaker}
use Rattle.version_differences.specs.Differences.{Added}
use Rattle.version_differences.proofs.PushedLines.{one_written}
use Rattle.version_differences.proofs.lines.push_added.Goals as goal

pub returns : goal.returns
returns c = on_ok_weaker c.push_one_fact.result (one_written _ _ (Added c.args.name.now c.args.id.now c.args.fact.now)) c.push_one_fact.ensures
