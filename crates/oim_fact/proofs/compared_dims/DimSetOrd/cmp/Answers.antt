use Rattle.std.proofs.Common.{◌∙◌}
use Rattle.filing_model.specs.Oim.Dimensions.{dims_cmp}
use Rattle.oim_fact.proofs.ComparedDims.{compared}
use Rattle.oim_fact.proofs.compared_dims.DimSetOrd.cmp.Goals as goal

pub returns : goal.returns
returns c = c.cmp.ensures ∙ compared c.pairs.result.now c.pairs-2.result.now ∙ (λ i. dims_cmp (c.pairs.ensures.list i) (c.pairs-2.ensures.list i))
