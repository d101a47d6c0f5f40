use Rattle.filing_index.proofs.facts.Facts.least_disallowed.Goals as goal

pub returns : goal.returns
returns c = c.least_disallowed.ensures c.args.self.now c.index.ensures
