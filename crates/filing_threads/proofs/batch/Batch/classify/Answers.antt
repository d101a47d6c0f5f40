use Rattle.std.proofs.Common.{◌∙◌, sym, refl}
use Rattle.std.specs.Arc.{arc_value}
use Rattle.filing_threads.proofs.ClassifiedLines.{adds_line}
use Rattle.filing_threads.proofs.batch.Batch.classify.Goals as goal

pub returns-then-branch : goal.returns-then-branch
returns-then-branch c = (
  record {
    due = c.in_ok-outcome.outcome;
    outcome = c.in_ok-outcome.ensures;
    left_out = sym c.in_ok-is_too_deep_for_journal.ensures ∙ c.if-branch.true;
  },
  refl,
)

pub returns : goal.returns
returns c =
    adds_line c.args.journaled (arc_value c.args.table.now) c.args.line.now c.in_ok-outcome.outcome c.args.self.now c.push.new.self c.in_ok-outcome.ensures
    (sym c.in_ok-is_too_deep_for_journal.ensures ∙ c.if-branch.false) c.in_ok-push.ensures
