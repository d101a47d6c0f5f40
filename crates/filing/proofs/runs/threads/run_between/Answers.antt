use Rattle.filing.proofs.ScriptRuns.{over_writer}
use Rattle.filing.proofs.runs.threads.run_between.Goals as goal

pub returns : goal.returns
returns g c =
    let ran = c.run_from-ended in (
      c.source_of-from.result,
      (
        ran.result.0,
        (
          c.source_of-from.ensures,
          over_writer _ _ _ _ c.new-sink.result ran.new.sink c.new-sink.ensures c.into_inner.ensures ran.ensures,
        ),
      ),
    )
