use Rattle.filing_index.proofs.facts.Facts.cell.Goals as goal

pub returns : goal.returns
returns c = λ i. (
  c.class_in.ensures c.args.self.now c.index-index.ensures i,
  c.of_cell.ensures c.args.self.now c.index-index.ensures i,
)
