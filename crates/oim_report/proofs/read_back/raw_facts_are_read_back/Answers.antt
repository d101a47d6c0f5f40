use Rattle.oim_report.proofs.WrittenFacts.{raw_fact_back}
use Rattle.oim_report.proofs.read_back.raw_facts_are_read_back.Goals as goal

pub returns : goal.returns
returns c = raw_fact_back
