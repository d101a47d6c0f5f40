use Rattle.std.proofs.Common.{arith}
use Rattle.filing_threads.proofs.office.run_at_named_office.Goals as goal

pub end_office-requires : goal.end_office-requires
end_office-requires g c = omega (arith, c.in-Ok.desks.ok.0, c.in-Ok.ensures.all_counted, c.requires.steps.1, c.requires.steps.2)

pub returns-in-Ok-end_office-clause-ran : goal.returns-in-Ok-end_office-clause-ran
returns-in-Ok-end_office-clause-ran g c =
    let ended = c.in-Ok-end_office.ensures in record {
      counted = c.in-Ok.desks.items;
      ran = c.in-Ok.ensures;
      steps = ended.steps;
      receipts = ended.receipts;
    }
