use Rattle.std.proofs.Common.{ap}
use Rattle.line_io.specs.Devices.{SinkState}
use Rattle.filing.proofs.NotedMistakes.{noted_where_ended}
use Rattle.filing.proofs.ScriptRuns.{noted_over, over}
use Rattle.filing.proofs.runs.with_journal.run_with_journal.Goals as goal

pub returns-clause-journaled : goal.returns-clause-journaled
returns-clause-journaled g c = λ h engine lines.
    let run = c.run_script_with_journal_observed-run in
    over _ _ _ _ _ _ _ c.new-source.result run.new.input c.new-sink.result run.new.output c.new-source.ensures c.into_inner.ensures
    c.new-sink.ensures c.into_inner-2.ensures (run.ensures.journaled h engine lines)

pub returns-clause-noted : goal.returns-clause-noted
returns-clause-noted g c =
    noted_over _ _ _ _ _ _ _ (ap (λ (s : SinkState). s.written) c.new-sink.ensures) c.into_inner-2.ensures
    (noted_where_ended _ _ _ _ _ _ _ _ c.run_script_with_journal_observed-run.ensures.shown)
