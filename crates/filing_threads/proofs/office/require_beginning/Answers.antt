use Rattle.filing_threads.proofs.BegunHistories.{begun_goes}
use Rattle.filing_threads.proofs.office.require_beginning.Goals as goal

pub returns-in-Ok-true-clause-goes : goal.returns-in-Ok-true-clause-goes
returns-in-Ok-true-clause-goes c =
    begun_goes c.args.first.now c.history.result.now c.args.core.history c.history.ensures.entries c.history.ensures.lawful
    (c.in-Ok-true.ensures c.in-Ok-true.field-0-test)
