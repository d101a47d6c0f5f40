use Rattle.std.proofs.Common.{◌∙◌, ap, subst, sym}
use Rattle.filing_model.specs.Histories.Lawful.{IsLawful}
use Rattle.history_format.specs.JournalLines.{journal_text}
use Rattle.filing.proofs.ScriptRuns.{over_writer}
use Rattle.filing.proofs.runs.threads.run_to_writer.Goals as goal

pub run_threads_with_journal-run-requires-clause-lawful : goal.run_threads_with_journal-run-requires-clause-lawful
run_threads_with_journal-run-requires-clause-lawful g c = λ κs outlives.
    let opened = c.requires.opened in
    subst IsLawful (sym (opened.is ∙ opened.lines.history)) opened.lines.lawful.lawful

pub run_threads_with_journal-run-requires-clause-lines : goal.run_threads_with_journal-run-requires-clause-lines
run_threads_with_journal-run-requires-clause-lines g c = λ κs outlives.
    let opened = c.requires.opened in
    opened.lines.lines ∙ ap journal_text (sym opened.is)

pub returns-clause-keeps : goal.returns-clause-keeps
returns-clause-keeps g c = over_writer _ _ _ _ c.new-sink.result c.run_threads_with_journal-run.new.output c.new-sink.ensures c.into_inner.ensures
    c.run_threads_with_journal-run.ensures.keeps
