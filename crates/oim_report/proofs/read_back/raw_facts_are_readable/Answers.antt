use Rattle.oim_report.proofs.ReadFacts.{readable}
use Rattle.oim_report.proofs.read_back.raw_facts_are_readable.Goals as goal

pub returns : goal.returns
returns c = readable
