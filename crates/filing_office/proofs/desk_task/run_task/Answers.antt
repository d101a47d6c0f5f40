use Rattle.std.proofs.Common.{subst}
use Rattle.filing_office.specs.Runs.{RunState}
use Rattle.filing_office.proofs.desk_task.run_task.Goals as goal

pub returns : goal.returns
returns g c = record {
  left = c.run_with-left.new.named_desk.state;
  is_left =
      subst (λ (s : RunState). g.E.DeskTask.leaves c.args.placed.at_desk.task s c.run_with-left.new.named_desk.state c.run_with-left.result)
      c.new-named_desk.ensures.state c.run_with-left.ensures;
  desk = c.into_parts-desk.ensures.tally;
  reviewer = c.into_parts-desk.ensures.seen;
}
