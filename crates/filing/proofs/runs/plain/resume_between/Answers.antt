use Rattle.std.proofs.Common.{ap}
use Rattle.line_io.specs.Devices.{SinkState}
use Rattle.filing.proofs.ScriptRuns.{noted_over, over}
use Rattle.filing.proofs.runs.plain.resume_between.Goals as goal

pub returns-clause-ran : goal.returns-clause-ran
returns-clause-ran g c =
    let ran = c.resume_script-left in (
      c.source_of-from.result,
      (
        c.source_of-from.ensures,
        over _ _ _ _ _ _ _ c.new-source.result ran.new.source c.new-sink.result ran.new.sink c.new-source.ensures
            c.into_inner.ensures c.new-sink.ensures c.into_inner-2.ensures ran.ensures.ran,
      ),
    )

pub returns-clause-noted : goal.returns-clause-noted
returns-clause-noted g c =
    noted_over _ _ _ _ _ _ _ (ap (λ (s : SinkState). s.written) c.new-sink.ensures) c.into_inner-2.ensures
    c.resume_script-left.ensures.noted
