use Rattle.std.proofs.Common.{option_map}
use Rattle.filing_threads.proofs.threads.run_threads.Goals as goal

pub returns : goal.returns
returns g c = (option_map (λ core. core.history) c.run_threads_on_history.result.core, c.run_threads_on_history.ensures)
