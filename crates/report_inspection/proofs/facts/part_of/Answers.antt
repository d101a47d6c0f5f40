use Rattle.report_inspection.proofs.TakenFacts.{part_data, part_range}
use Rattle.report_inspection.proofs.facts.part_of.Goals as goal

pub returns-clause-data : goal.returns-clause-data
returns-clause-data c = part_data c.args.name.now c.args.value.now c.get.result c.requires c.get.ensures

pub returns-clause-range : goal.returns-clause-range
returns-clause-range c = part_range c.args.name.now c.args.value.now c.get.result c.requires c.get.ensures
